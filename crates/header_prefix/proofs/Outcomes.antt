-- No second outcome satisfies a statement of this crate's public functions; and the length of a text that was not refused is at most what document 01 allows.
use Rattle.refusal.specs.declared.Refusal.{Refusal}
use Rattle.header_prefix.specs.declared.Prefix.{Prefix}
use Rattle.std.specs.Prelude.{Err, Ok, Result}
use Prim.Native.Nat.{ℕ, ◌≤◌}
use mathlib.Core.Path.{◌≡◌, refl, sym, ap, ◌∙◌}
use mathlib.Core.List.{List}
use mathlib.Core.Bool.{not, ◌||◌}
use lib.Dec.{ltb}
use lib.ListN.{length, get_or, take, drop}
use borrow.Author.Tests.{ltb-false}
use Rattle.counts.specs.Outcome.{Outcome, gives, refused}
use Rattle.counts.specs.OneOutcome.{OneOutcome}
use Rattle.counts.specs.Lists.{same}
use Rattle.counts.proofs.OneOutcome.{by_equation}
use Rattle.counts.proofs.Holds.{Holds, then_holds, unless_holds, holds_of}
use Rattle.refusal.proofs.Names.{refusal_back}
use Rattle.refusal.proofs.Answers.{answer_for, answer_one}
use Rattle.record.specs.Prefix as before
use Rattle.number_bytes.specs.Numbers.{little}
use Rattle.header_prefix.specs.declared.Version.{Version}
use Rattle.header_prefix.specs.Answer.{version_is, prefix_answer}

-- a version can be found again from what it means
pub version_back : before.Version → Version
version_back before.one_zero = Version.OneZero
version_back before.two_zero = Version.TwoZero
version_back before.three_zero = Version.ThreeZero

pub version_back_lem : (v : Version) → version_back (version_is v) ≡ v
unfolding version_back
version_back_lem Version.OneZero = refl
version_back_lem Version.TwoZero = refl
version_back_lem Version.ThreeZero = refl

pub version_apart : (v w : Version) → version_is v ≡ version_is w → v ≡ w
version_apart v w e = sym (version_back_lem v) ∙ ap version_back e ∙ version_back_lem w

abbrev read_for : before.Prefix → Result Prefix Refusal
read_for p = Ok (record { version = version_back p.version; length = p.text_length })

read_same : (r : Result Prefix Refusal) → answer_for read_for Err (prefix_answer r) ≡ r
read_same (Ok p) = ap (λ (v : Version). Ok (record { version = v; length = p.length })) (version_back_lem p.version)
read_same (Err why) = ap Err (refusal_back why)

pub read_one : (file : List ℕ) → OneOutcome {A = Result Prefix Refusal} (λ r. prefix_answer r ≡ before.prefix file)
read_one file = answer_one prefix_answer read_for Err read_same (before.prefix file)

pub major_one : (v : Version) → OneOutcome {A = ℕ} (λ r. r ≡ before.major (version_is v))
major_one v = by_equation (before.major (version_is v))

pub length_width_one : (v : Version) → OneOutcome {A = ℕ} (λ r. r ≡ before.length_width (version_is v))
length_width_one v = by_equation (before.length_width (version_is v))

pub text_start_one : (v : Version) → OneOutcome {A = ℕ} (λ r. r ≡ before.text_start (version_is v))
text_start_one v = by_equation (before.text_start (version_is v))

-- 4 was not given
abbrev Short : before.Prefix → Type 0
Short p = p.text_length ≤ before.most_text

length_holds : (v : before.Version) (file : List ℕ) → Holds Short (before.length_read v file)
length_holds v file =
    let n = little (take (before.length_width v) (drop 8 file)) in
    unless_holds Short (ltb (length file) (before.text_start v)) 3 _
    (λ h. unless_holds Short (ltb before.most_text n) 4 _ (λ k. ltb-false before.most_text n k))

any_version : (o : Outcome before.Version) → Holds (λ _. Unit {0}) o
any_version (gives v) = tt
any_version (refused n) = tt

pub prefix_short : (file : List ℕ) (p : before.Prefix) → before.prefix file ≡ gives p → p.text_length ≤ before.most_text
unfolding before.prefix
prefix_short file p e =
    holds_of Short e
    (unless_holds Short (ltb (length file) 8 || not (same (take 6 file) before.magic)) 1 _
    (λ h. then_holds (λ _. Unit {0}) Short (before.version_of (get_or file 6 0) (get_or file 7 0)) (λ v. before.length_read v file) (any_version (before.version_of (get_or file 6 0) (get_or file 7 0))) (λ v u. length_holds v file)))
