use Rattle.std.proofs.Common.{refl, ◌+◌}
use Rattle.spool.proofs.PushLemmas.{kept_told, on_err, pushed_told}
use Rattle.spool.proofs.writer.RunWriter.push.Goals as goal

pub returns-clause-pushed : goal.returns-clause-pushed
returns-clause-pushed g c =
    pushed_told _ _ _ c.args.self.now (record { first = c.args.self.now.first; end = c.in_ok-next.next; pages = c.args.self.now.pages + 1 }) c.append.new.page.bytes
    refl refl c.append.ensures.same.len c.in_ok-next.ensures.sound c.in_ok-next.ensures.names c.in_ok-next.ensures.appended

pub returns-in_err-next-clause-kept : goal.returns-in_err-next-clause-kept
returns-in_err-next-clause-kept g c = on_err _ _ (kept_told _ _ c.args.self.now c.in_err-next.ensures.refused)
