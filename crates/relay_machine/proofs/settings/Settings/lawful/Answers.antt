use Rattle.std.proofs.Common.{◌≡◌, true}
use Rattle.relay_machine.specs.declared.number_key.NumberKey.TheVariants.{Endpoints, Groups, ResponseTenths, Sources}
use Rattle.relay_machine.proofs.settings.Settings.lawful.Goals as goal

pub has_query_times-requires : goal.has_query_times-requires
has_query_times-requires c =
    let found : c.are_in_range.result ≡ true = cc in (c.are_in_range.ensures.0 found ResponseTenths).most

pub has_lawful_product-requires-clause-endpoints : goal.has_lawful_product-requires-clause-endpoints
has_lawful_product-requires-clause-endpoints c =
    let found : c.are_in_range.result ≡ true = cc in (c.are_in_range.ensures.0 found Endpoints).most

pub has_lawful_product-requires-clause-groups : goal.has_lawful_product-requires-clause-groups
has_lawful_product-requires-clause-groups c =
    let found : c.are_in_range.result ≡ true = cc in (c.are_in_range.ensures.0 found Groups).most

pub has_lawful_product-requires-clause-sources : goal.has_lawful_product-requires-clause-sources
has_lawful_product-requires-clause-sources c =
    let found : c.are_in_range.result ≡ true = cc in (c.are_in_range.ensures.0 found Sources).most
