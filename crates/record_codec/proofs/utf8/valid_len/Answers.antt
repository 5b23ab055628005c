use Rattle.std.proofs.Common.{arith}
use Rattle.record_codec.proofs.utf8.valid_len.Goals as goal

pub returns-in-Err-clause-longest : goal.returns-in-Err-clause-longest
returns-in-Err-clause-longest c = λ n below _ text. c.in-Err.ensures.cases.1.longest n (omega arith) text
