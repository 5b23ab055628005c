use Rattle.flow_types.proofs.TextLemmas.{cut-take, cut-le, cut-IsUtf8, cut-longest}
use Rattle.flow_types.proofs.laws.cuts_are_longest.Goals as goal

pub returns : goal.returns
returns c = record {
  prefix = cut-take;
  short = cut-le;
  text = cut-IsUtf8;
  longest = cut-longest;
}
