-- By the class of the byte.
use mathlib.Core.Path.{refl}
use borrow.Author.Tests.{ne_eqb}
use Rattle.literal_bytes.proofs.ByClass.{by_class, by_no_class}
use Rattle.literal_bytes.proofs.kind_by_class.Goals as goal

pub returns-in-1 : goal.returns-in-1
returns-in-1 c = by_class c.args.b _ 1 c.ranges.b.fits c.class_of.ensures c.in-1.is refl

pub returns-in-2 : goal.returns-in-2
returns-in-2 c = by_class c.args.b _ 2 c.ranges.b.fits c.class_of.ensures c.in-2.is c.word_kind.ensures

pub returns-in-3 : goal.returns-in-3
returns-in-3 c = by_class c.args.b _ 3 c.ranges.b.fits c.class_of.ensures c.in-3.is refl

pub returns-in-4 : goal.returns-in-4
returns-in-4 c = by_class c.args.b _ 4 c.ranges.b.fits c.class_of.ensures c.in-4.is c.bracket_kind.ensures

pub returns-in-5 : goal.returns-in-5
returns-in-5 c = by_class c.args.b _ 5 c.ranges.b.fits c.class_of.ensures c.in-5.is refl

pub returns-in_default : goal.returns-in_default
returns-in_default c = by_no_class c.args.b _ c.ranges.b.fits c.class_of.ensures (ne_eqb _ _ c.in_default.in_default-own.rest.0.0.0.0.1) (ne_eqb _ _ c.in_default.in_default-own.rest.0.0.0.1) (ne_eqb _ _ c.in_default.in_default-own.rest.0.0.1) (ne_eqb _ _ c.in_default.in_default-own.rest.0.1) (ne_eqb _ _ c.in_default.in_default-own.rest.1)
