-- A written General Query is read back, and its length.
use Rattle.std.proofs.{Common.{◌≡◌, ℕ, ◌/◌, ◌%◌, ◌≤◌, List, ◌∷◌, ◌++◌, length, refl, arith}, lemmas.Bool.{ne_eqb}}
use Rattle.byteorder.specs.{Endian.{big_bytes}, Numbers.{big_number-reads_back}}
use Rattle.amt_values.specs.Octets.{AreOctets}
use Rattle.inner_datagrams.specs.Checksum.{internet_sum_of, IsRight}
use Rattle.source_filter.specs.declared.query.QueryFields.{QueryFields}
use Rattle.group_records.{specs.{declared.family.Family.{Family, TheVariants.{V4, V6}}, Query.{IsGeneralQuery, every_group, greatest_code, least_query_length, query_type, query_with_sum, written_query}}, proofs.MessageSums.{IsRight-summed}}

pub length-query_with_sum : (checksum : ℕ) (family : Family) (fields : QueryFields) → length (query_with_sum checksum family fields) ≡ least_query_length family
length-query_with_sum checksum V4 fields = refl
length-query_with_sum checksum V6 fields = refl

pub length-written_query : (family : Family) (pseudo_header : List ℕ) (fields : QueryFields)
    → length (written_query family pseudo_header fields) ≡ least_query_length family
unfolding written_query
length-written_query family pseudo_header fields =
    length-query_with_sum (internet_sum_of (pseudo_header ++ query_with_sum 0 family fields)) family fields

IsRight-written_query : (family : Family) (pseudo_header : List ℕ) (fields : QueryFields) → length pseudo_header % 2 ≡ 0
    → AreOctets (pseudo_header ++ query_with_sum 0 family fields) → IsRight (pseudo_header ++ written_query family pseudo_header fields)
unfolding written_query
IsRight-written_query V4 pseudo_header fields even small =
    IsRight-summed pseudo_header (query_type V4) fields.max_code (every_group V4 fields) even small
IsRight-written_query V6 pseudo_header fields even small =
    IsRight-summed pseudo_header (query_type V6) 0 (big_bytes 2 fields.max_code ++ 0 ∷ 0 ∷ every_group V6 fields) even small

-- each field of a written query stands at its place
pub IsGeneralQuery-written_query : (family : Family) (pseudo_header : List ℕ) (fields : QueryFields) → length pseudo_header % 2 ≡ 0
    → AreOctets (pseudo_header ++ query_with_sum 0 family fields) → fields.max_code ≤ greatest_code family → fields.robustness ≤ 7
    → IsGeneralQuery family pseudo_header fields (written_query family pseudo_header fields)
unfolding written_query
IsGeneralQuery-written_query V4 pseudo_header fields even small code_fits robustness_fits = record {
  whole = omega arith;
  kind = refl;
  right_sum = IsRight-written_query V4 pseudo_header fields even small;
  max_code = refl;
  group = refl;
  suppress = ne_eqb (fields.robustness / 8 % 2) 1 (λ set. omega arith);
  robustness = omega arith;
  interval_code = refl;
  sources = refl;
}
IsGeneralQuery-written_query V6 pseudo_header fields even small code_fits robustness_fits = record {
  whole = omega arith;
  kind = refl;
  right_sum = IsRight-written_query V6 pseudo_header fields even small;
  max_code = big_number-reads_back 2 fields.max_code (0 ∷ 0 ∷ every_group V6 fields) (omega arith);
  group = refl;
  suppress = ne_eqb (fields.robustness / 8 % 2) 1 (λ set. omega arith);
  robustness = omega arith;
  interval_code = refl;
  sources = refl;
}
