-- What is wrong with octets that come in, as several kinds of script print it.
use Rattle.std.specs.{Prelude.{ℕ, List, ◌++◌, codes, decimal}, Int.{w16, to_be_bytes}}
use Rattle.hex.specs.Hex.{encode_lower}
use Rattle.amt_messages.specs.declared.refusal.Refused.{Refused, TheVariants.{Empty, Version, Kind, NoInner, Short, Long}}
use Rattle.inner_datagrams.specs.declared.{head.HeadFault.{HeadFault}, inner.InnerFault.{InnerFault}}
use Rattle.inner_datagrams.specs.declared.head.HeadFault.TheVariants as head
use Rattle.inner_datagrams.specs.declared.inner.InnerFault.TheVariants as inner
use Rattle.source_filter.specs.declared.fault.ReportFault.{ReportFault}
use Rattle.source_filter.specs.declared.fault.ReportFault.TheVariants as report

-- why octets are no message (RFC 7450, section 5.1)
abbrev pub refusal_text : Refused → List ℕ
refusal_text Empty = codes "empty"
refusal_text (Version version) = codes "version " ++ decimal version
refusal_text (Kind kind) = codes "kind " ++ decimal kind
refusal_text NoInner = codes "noinner"
refusal_text (Short need have) = codes "short " ++ (decimal need ++ (codes " " ++ decimal have))
refusal_text (Long need have) = codes "long " ++ (decimal need ++ (codes " " ++ decimal have))

-- a checksum, in four hexadecimal digits
abbrev pub sum_text : ℕ → List ℕ
sum_text sum = encode_lower (to_be_bytes w16 sum)

-- a wrong checksum: the one wanted, and the one there
abbrev pub sums_text : ℕ → ℕ → List ℕ
sums_text want have = codes "sum " ++ (sum_text want ++ (codes " " ++ sum_text have))

-- what is wrong with a datagram that carries membership messages (RFC 791, section 3.1; RFC 8200, sections 3 and 4)
abbrev pub inner_text : InnerFault → List ℕ
inner_text (inner.Version version) = codes "version " ++ decimal version
inner_text (inner.ShortHeader need have) = codes "short " ++ (decimal need ++ (codes " " ++ decimal have))
inner_text (inner.HeaderLength words) = codes "header " ++ decimal words
inner_text (inner.TotalLength want have) = codes "length " ++ (decimal want ++ (codes " " ++ decimal have))
inner_text (inner.HeaderSum want have) = sums_text want have
inner_text (inner.Fragment bits) = codes "fragment " ++ decimal bits
inner_text (inner.Protocol protocol) = codes "protocol " ++ decimal protocol
inner_text (inner.Extension kind) = codes "extension " ++ decimal kind

-- what is wrong with a membership report or query (RFC 3376, sections 4.1 and 4.2)
abbrev pub report_text : ReportFault → List ℕ
report_text (report.Short need have) = codes "short " ++ (decimal need ++ (codes " " ++ decimal have))
report_text (report.Kind kind) = codes "kind " ++ decimal kind
report_text (report.Sum want have) = sums_text want have
report_text (report.RecordShort index) = codes "record " ++ decimal index
report_text (report.SourceShort index) = codes "sources " ++ decimal index

-- what is wrong with the head of a packet (RFC 791, section 3.1; RFC 8200, section 3)
abbrev pub head_text : HeadFault → List ℕ
head_text (head.Version version) = codes "version " ++ decimal version
head_text (head.ShortHeader need have) = codes "short " ++ (decimal need ++ (codes " " ++ decimal have))
