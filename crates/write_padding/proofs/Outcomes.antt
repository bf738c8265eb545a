-- No second outcome satisfies a statement of this crate's public functions. What is put states `Emits`, for which `emits_one` of emit serves.
use Rattle.refusal.specs.Answers.{answer}
use Prim.Native.Nat.{ℕ, ◌^◌, ◌<◌}
use mathlib.Core.Path.{◌≡◌}
use mathlib.Core.Bool.{Bool}
use mathlib.Core.List.{List, ◌∷◌}
use Rattle.counts.specs.OneOutcome.{OneOutcome}
use Rattle.emit.specs.Emits.{Emits}
use Rattle.emit.proofs.Outcomes.{emits_one}
use Rattle.refusal.proofs.Answers.{whole_one}
use Rattle.literal_grammar.specs.Print.{spaces}
use Rattle.record.specs.File.{file_by}
use Rattle.header_prefix.specs.declared.Version.{Version}
use Rattle.header_prefix.specs.Answer.{version_is}
use Rattle.write_padding.specs.Plan.{planned}

pub plan_for_one : (ascii : Bool) (n : ℕ) → OneOutcome (λ r. answer r ≡ planned ascii n)
plan_for_one ascii n = whole_one (planned ascii n)

pub put_prefix_one : (v : Version) (n : ℕ) (old : List ℕ) (at : ℕ) → OneOutcome {A = List ℕ × ℕ} (λ r. Emits (file_by (version_is v) n) old at r.0 r.1 × (r.1 < 2 ^ 64))
put_prefix_one v n = emits_one (file_by (version_is v) n)

pub put_padding_one : (n : ℕ) (old : List ℕ) (at : ℕ) → OneOutcome {A = List ℕ × ℕ} (λ r. Emits (λ z. spaces n (10 ∷ z)) old at r.0 r.1 × (r.1 < 2 ^ 64))
put_padding_one n = emits_one (λ z. spaces n (10 ∷ z))
