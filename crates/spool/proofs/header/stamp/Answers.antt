use Rattle.std.proofs.Common.{arith, rules}
use Rattle.spool.proofs.HeaderLemmas.{next_lent}
use Rattle.spool.proofs.header.stamp.Goals as goal

pub returns-clause-names : goal.returns-clause-names
returns-clause-names c =
    next_lent c.args.page.now.bytes c.write_header.new.bytes c.as_header_number.result c.args.next
    (search rules) (search rules) (omega (arith, c.bytes-len.ensures.smallest)) (search rules)
