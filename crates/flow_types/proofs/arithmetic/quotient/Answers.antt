use Rattle.flow_types.proofs.QuotientLemmas.{div_by}
use Rattle.flow_types.proofs.arithmetic.quotient.Goals as goal

pub returns-else-b-eq0 : goal.returns-else-b-eq0
returns-else-b-eq0 c = div_by _ _ _ c.ranges.a c.ranges.b c.if-b-eq0.false c.wrapping_div.ensures
