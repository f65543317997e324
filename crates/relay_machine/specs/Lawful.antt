-- What a membership report in an Update is (RFC 7450, section 5.1.5).
use Rattle.std.specs.Prelude.{ℕ, List}
use Rattle.amt_values.specs.{Address.{number_of}, declared.address.Ip.{Ip, TheVariants.{V4, V6}}}
use Rattle.source_filter.specs.declared.record.Record.{Record}
use Rattle.inner_datagrams.specs.Inner.{IsInner}
use Rattle.igmp_records.specs.Report.{IsReport4}
use Rattle.mld_records.specs.Report.{IsReport6}

-- what a datagram between these addresses carries is a report of exactly these records: over IPv4 of
-- IGMP (RFC 3376, sections 4.2 and 7.3.2), and over IPv6 of MLD, whose checksum counts the addresses
-- (RFC 3810, sections 5.2 and 8.3.2)
abbrev pub IsReportBetween : Ip → Ip → List Record → List ℕ → Type 0
IsReportBetween (V4 source) destination records payload = IsReport4 records payload
IsReportBetween (V6 source) destination records payload = IsReport6 source (number_of destination) records payload

-- the inner octets of an Update are a datagram, and it carries a report of its family with exactly
-- these records
pub record IsLawful (inner : List ℕ) (records : List Record) : Type 0 where
  pub source : Ip
  pub destination : Ip
  pub payload : List ℕ
  pub datagram : IsInner source destination payload inner
  pub report : IsReportBetween source destination records payload
