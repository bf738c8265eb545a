-- `value::value_by` meets its contract: in each arm the form is known.
use Prim.Native.Nat.{ℕ}
use native.Mathlib.Omega.{arith}
use mathlib.Core.Path.{refl, ap}
use lib.IntN.{ℤ}
use lib.ListN.{length}
use Rattle.counts.specs.Outcome.{gives}
use Rattle.value_float.specs.declared.Single.{Single}
use Rattle.value_float.specs.declared.Double.{Double}
use Rattle.value.specs.declared.Value.{Value}
use Rattle.value.specs.Values.{value_by}
use Rattle.value.proofs.Runs.{whole_few, eight_whole, signed_back}
use Rattle.value.proofs.Forms.{sized_as, by_form}
use Rattle.value.proofs.value_by.Goals as goal

pub bool_in-requires : goal.bool_in-requires
bool_in-requires c = let e = sized_as (length c.args.run.now) c.in-Bool.is c.requires in omega arith

pub signed_in-requires : goal.signed_in-requires
signed_in-requires c = sized_as (length c.args.run.now) c.in-Signed.is c.requires

pub number_in-requires : goal.number_in-requires
number_in-requires c = whole_few _ (sized_as (length c.args.run.now) c.in-Unsigned.is c.requires)

pub half_in-requires : goal.half_in-requires
half_in-requires c = sized_as (length c.args.run.now) c.in-Half.is c.requires

pub single_in-requires : goal.single_in-requires
single_in-requires c = sized_as (length c.args.run.now) c.in-Single.is c.requires

pub double_in-requires : goal.double_in-requires
double_in-requires c = sized_as (length c.args.run.now) c.in-Double.is c.requires

pub single_pair_in-requires : goal.single_pair_in-requires
single_pair_in-requires c = sized_as (length c.args.run.now) c.in-SinglePair.is c.requires

pub double_pair_in-requires : goal.double_pair_in-requires
double_pair_in-requires c = sized_as (length c.args.run.now) c.in-DoublePair.is c.requires

pub signed_in-requires-in-Time : goal.signed_in-requires-in-Time
signed_in-requires-in-Time c = eight_whole _ (sized_as (length c.args.run.now) c.in-Time.is c.requires)

pub returns-in-Bool : goal.returns-in-Bool
unfolding value_by
returns-in-Bool c = by_form c.args.order c.args.units c.args.run.now c.in-Bool.is c.bool_in.ensures

pub returns-in-Signed : goal.returns-in-Signed
unfolding value_by
returns-in-Signed c = by_form c.args.order c.args.units c.args.run.now c.in-Signed.is (ap (λ (z : ℤ). gives (Value.Signed z)) (signed_back c.args.order c.args.run.now c.shared_slice_known-1.given (sized_as (length c.args.run.now) c.in-Signed.is c.requires) c.signed_in.ensures))

pub returns-in-Unsigned : goal.returns-in-Unsigned
unfolding value_by
returns-in-Unsigned c = by_form c.args.order c.args.units c.args.run.now c.in-Unsigned.is (ap (λ (z : ℕ). gives (Value.Unsigned z)) c.number_in.ensures)

pub returns-in-Half : goal.returns-in-Half
unfolding value_by
returns-in-Half c = by_form c.args.order c.args.units c.args.run.now c.in-Half.is (ap (λ (z : Single). gives (Value.Single z)) c.half_in.ensures)

pub returns-in-Single : goal.returns-in-Single
unfolding value_by
returns-in-Single c = by_form c.args.order c.args.units c.args.run.now c.in-Single.is (ap (λ (z : Single). gives (Value.Single z)) c.single_in.ensures)

pub returns-in-Double : goal.returns-in-Double
unfolding value_by
returns-in-Double c = by_form c.args.order c.args.units c.args.run.now c.in-Double.is (ap (λ (z : Double). gives (Value.Double z)) c.double_in.ensures)

pub returns-in-SinglePair : goal.returns-in-SinglePair
unfolding value_by
returns-in-SinglePair c = by_form c.args.order c.args.units c.args.run.now c.in-SinglePair.is c.single_pair_in.ensures

pub returns-in-DoublePair : goal.returns-in-DoublePair
unfolding value_by
returns-in-DoublePair c = by_form c.args.order c.args.units c.args.run.now c.in-DoublePair.is c.double_pair_in.ensures

pub returns-in-Time : goal.returns-in-Time
unfolding value_by
returns-in-Time c = by_form c.args.order c.args.units c.args.run.now c.in-Time.is (ap (λ (z : ℤ). gives (Value.Time z c.args.units)) (signed_back c.args.order c.args.run.now c.shared_slice_known-1.given (eight_whole _ (sized_as (length c.args.run.now) c.in-Time.is c.requires)) c.signed_in-in-Time.ensures))

pub returns-in-NoValue : goal.returns-in-NoValue
unfolding value_by
returns-in-NoValue c = by_form c.args.order c.args.units c.args.run.now c.in-NoValue.is refl
