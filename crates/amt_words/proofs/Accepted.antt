-- A line that is accepted, or is one of a command, is taken by a written definition.
use Rattle.std.{proofs.Common.{◌≡◌, ◌<◌, ℕ, zero, suc, List, [], ◌∷◌, length, sym, subst, inl, inr, arith}, specs.List.{slice_index_or}}
use Rattle.clap.specs.Words.{App, Text}
use Rattle.amt_words.specs.{declared.command.Command.{Command, TheVariants.{Replay, Dump, Vectors, Load, Relay, Gateway, Dns, Pcap}}, Line.{IsAccepted, IsCommandLine, IsTakenBy}, Usage.{Takes, usages}}

module _ (name : Text) (words : List Text) where
  taken_at : (all : List App) (k : ℕ) (x : App) → k < length all → slice_index_or all k x ≡ x → (name ≡ x.top.name) × Takes x words
      → IsTakenBy all name words
  taken_at [] k x low at takes = absurd (omega arith)
  taken_at (usage ∷ others) zero x low at takes = inl (subst (λ (u : App). (name ≡ u.top.name) × Takes u words) (sym at) takes)
  taken_at (usage ∷ others) (suc k) x low at takes = inr (taken_at others k x (omega arith) at takes)

  pub accepted_taken : IsAccepted (name ∷ words) → IsTakenBy usages name words
  accepted_taken any = taken_at usages any.0 any.1 any.2 any.3 any.4

  pub line_taken : (command : Command) → IsCommandLine command (name ∷ words) → IsTakenBy usages name words
  line_taken (Replay kind) line = inl (line.0, line.1)
  line_taken Dump line = inr (inl (line.0, line.1))
  line_taken Vectors line = inr (inr (inl (line.0, line.1)))
  line_taken (Load seed count) line = inr (inr (inr (inl (line.0, line.1))))
  line_taken (Relay file turns workers) line = inr (inr (inr (inr (inl (line.0, line.1)))))
  line_taken (Gateway file turns) line = inr (inr (inr (inr (inr (inl (line.0, line.1))))))
  line_taken (Dns source) line = inr (inr (inr (inr (inr (inr (inl (line.0, line.1)))))))
  line_taken (Pcap relay) line = inr (inr (inr (inr (inr (inr (inr (inl (line.0, line.1))))))))
