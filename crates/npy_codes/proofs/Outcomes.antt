-- No second outcome satisfies a statement of this crate: an answer as C gets it has one code and one content of the room for the values; and a number that a caller
-- gives names one order, version or type, or is refused by one reason.
use Rattle.refusal.specs.Answers.{answer}
use Rattle.type_str.specs.declared.TypeStr.{TypeStr}
use Rattle.refusal.specs.declared.Refusal.{Refusal}
use Rattle.dtype.specs.declared.Order.{Order}
use Rattle.std.specs.Prelude.{Err, Ok, Result}
use Prim.Native.Nat.{ℕ}
use mathlib.Core.Path.{◌≡◌, refl, sym, ap, ◌∙◌}
use mathlib.Core.List.{List, ◌++◌}
use lib.ListN.{take}
use Rattle.counts.specs.Outcome.{Outcome, gives, refused}
use Rattle.counts.specs.OneOutcome.{OneOutcome}
use Rattle.counts.proofs.OneOutcome.{pair_of, by_equation, by_inverse}
use Rattle.refusal.proofs.Names.{refusal_back}
use Rattle.refusal.proofs.Answers.{answer_for, answer_one, whole_one}
use Rattle.header_prefix.proofs.Outcomes.{version_back, version_back_lem}
use Rattle.type_str.proofs.Outcomes as typed_one
use Rattle.record.specs.Prefix as version
use Rattle.header_prefix.specs.declared.Version.{Version}
use Rattle.header_feed.specs.declared.Fed.{Fed}
use Rattle.header_feed.specs.declared.Feeder.{Feeder}
use Rattle.header_feed.specs.Feeds.{Progress, need_more, outcome, progress}
use Rattle.npy_codes.specs.declared.FeederSays.{FeederSays}
use Rattle.npy_codes.specs.Codes.{Returns, order_for, type_for}
use Rattle.npy_codes.specs.Given.{version_given}
use Rattle.npy_codes.specs.Feeders.{ReturnsProgress, saying_numbers, feeder_numbers, taking_for, saying}
use Rattle.npy_codes.specs.FeederSays.{feeder_says}

-- of every function that tells an answer
pub returns_one : {A : Type 0} (values : A → List ℕ) (o : Outcome A) (room : List ℕ) → OneOutcome {A = ℕ × List ℕ} (λ r. Returns values o room r.0 r.1)
returns_one values o room x y p q = pair_of (p.answered ∙ sym q.answered) (p.after ∙ sym q.after)

-- ---- what a number names
pub order_for_one : (n : ℕ) → OneOutcome {A = Result Order Refusal} (λ r. answer r ≡ order_for n)
order_for_one n = whole_one (order_for n)

version_same : (a : Result Version Refusal) → answer_for (λ v. Ok (version_back v)) Err (version_given a) ≡ a
version_same (Ok v) = ap Ok (version_back_lem v)
version_same (Err why) = ap Err (refusal_back why)

pub version_for_one : (n : ℕ) → OneOutcome {A = Result Version Refusal} (λ r. version_given r ≡ version.version_of n 0)
version_for_one n = answer_one version_given (λ v. Ok (version_back v)) Err version_same (version.version_of n 0)

pub type_for_one : (order letter size units : ℕ) → OneOutcome {A = Result TypeStr Refusal} (λ r. answer r ≡ type_for order letter size units)
type_for_one order letter size units = typed_one.answer_one (type_for order letter size units)

-- ---- a feeder and its numbers
says_back : Outcome Progress → FeederSays
says_back (gives need_more) = FeederSays.More
says_back (gives (outcome (gives h))) = FeederSays.Header (record { version = version_back h.version; info = h.info; start = record { 0 = h.data_start } })
says_back (gives (outcome (refused n))) = FeederSays.Refused n
says_back (refused n) = FeederSays.NoFeeder

says_back_lem : (r : FeederSays) → says_back (feeder_says r) ≡ r
unfolding says_back
says_back_lem FeederSays.More = refl
says_back_lem (FeederSays.Header h) = ap (λ (v : Version). FeederSays.Header (record { version = v; info = h.info; start = h.start })) (version_back_lem h.version)
says_back_lem (FeederSays.Refused n) = refl
says_back_lem FeederSays.NoFeeder = refl

pub feeder_says_one : (numbers : List ℕ) → OneOutcome {A = FeederSays} (λ r. feeder_says r ≡ saying numbers)
feeder_says_one numbers = by_inverse feeder_says says_back says_back_lem (saying numbers)

pub feeder_at_one : (numbers : List ℕ) → OneOutcome {A = Feeder} (λ r. r ≡ taking_for numbers)
feeder_at_one numbers = by_equation (taking_for numbers)

pub feeder_numbers_one : (f : Feeder) → OneOutcome {A = List ℕ} (λ r. r ≡ feeder_numbers f)
feeder_numbers_one f = by_equation (feeder_numbers f)

pub with_saying_one : (numbers : List ℕ) (said : Fed) → OneOutcome {A = List ℕ} (λ r. r ≡ take 13 numbers ++ saying_numbers (progress said))
with_saying_one numbers said = by_equation (take 13 numbers ++ saying_numbers (progress said))

pub progress_one : (p : Progress) (values : List ℕ) → OneOutcome {A = ℕ × List ℕ} (λ r. ReturnsProgress p values r.0 r.1)
progress_one p values x y a b = pair_of (a.answered ∙ sym b.answered) (a.after ∙ sym b.after)

pub return_fed_one : (said : Fed) (values : List ℕ) → OneOutcome {A = ℕ × List ℕ} (λ r. ReturnsProgress (progress said) values r.0 r.1)
return_fed_one said values = progress_one (progress said) values

-- what C gets of a value, whatever its numbers are
pub numbers_one : (numbers : List ℕ) → OneOutcome (λ (r : List ℕ). r ≡ numbers)
numbers_one numbers = by_equation numbers
