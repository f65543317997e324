-- Passing over two tags first finds the same place.
use Rattle.std.proofs.{Common.{◌≡◌, ℕ, zero, suc, ◌+◌, List, ◌∙◌, arith, if◌then◌else◌, Some, None}, lemmas.Grind.{common_steps}}
use Rattle.amt_pcap.specs.Capture.{is_ip_type, is_tag, packet_place}
use Rattle.amt_pcap.proofs.frame.payload_of.Goals as goal

behind : (tags : ℕ) (frame : List ℕ) (at place : ℕ) → place ≡ (if is_tag frame at then at + 4 else at)
    → packet_place (suc tags) frame at ≡ packet_place tags frame place
unfolding packet_place
behind zero frame at place is = grind (arith, common_steps)
behind (suc tags) frame at place is = grind (arith, common_steps)

two : (frame : List ℕ) (first place : ℕ) → first ≡ (if is_tag frame 12 then 16 else 12)
    → place ≡ (if is_tag frame first then first + 4 else first)
    → packet_place 2 frame 12 ≡ (if is_ip_type frame place then Some (place + 2) else None)
unfolding packet_place
two frame first place one other = behind 1 frame 12 first one ∙ behind 0 frame first place other

pub returns-then-not-is_ip_type : goal.returns-then-not-is_ip_type
returns-then-not-is_ip_type c =
    rw (two c.args.frame.now c.after_tag.result c.after_tag-at.result c.after_tag.ensures.place c.after_tag-at.ensures.place) (grind (arith, common_steps))

pub returns : goal.returns
returns c =
    rw (two c.args.frame.now c.after_tag.result c.after_tag-at.result c.after_tag.ensures.place c.after_tag-at.ensures.place) (grind (arith, common_steps))
