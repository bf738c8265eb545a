-- `value_float::digits_of` meets its contract: a field that is not 0 has its leading one.
use Rattle.value_float.proofs.Fields.{digits_some}
use Rattle.value_float.proofs.digits_of.Goals as goal

pub returns-else-exponent-eq0 : goal.returns-else-exponent-eq0
returns-else-exponent-eq0 c = digits_some c.args.exponent c.args.fraction c.if-exponent-eq0.false
