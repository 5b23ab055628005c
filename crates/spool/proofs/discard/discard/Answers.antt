use Rattle.std.proofs.Common.{rules, ◌≡◌, ◌↔◌, ◌∙◌, false, None, Ok, Err, ap, subst, sym, length}
use Rattle.std.specs.Prelude.{IsErrOf}
use Rattle.flow_outside.specs.declared.failure.StreamFault.TheVariants as fault
use Rattle.flow_outside.specs.Blocks.{BothTold, Becomes}
use Rattle.spool.specs.Reading.{number_at, HasRead}
use Rattle.spool.proofs.DamageLemmas.{come_on, damaged_at, same_fault}
use Rattle.spool.proofs.FreeLemmas.{frees_told}
use Rattle.spool.proofs.discard.discard.Goals as goal

pub pages-preserved : goal.pages-preserved
pages-preserved g c =
    let more = c.in-Ok-true.is ∙ ap Ok c.in-Ok-true.field-0-test in
    let moved : HasRead c.pages.reader c.next.new.self c.next.new.page.bytes = c.next.ensures.moved more in
    let freed : BothTold (g.D.Spill.told c.pages.disk) (g.D.Spill.told c.free.new.self) (Becomes c.pages.reader.at None) =
    subst (λ t. BothTold t (g.D.Spill.told c.free.new.self) (Becomes c.pages.reader.at None)) c.next.ensures.tells
    (subst (λ b. BothTold (g.D.Spill.told c.next.new.disk) (g.D.Spill.told c.free.new.self) (Becomes b None)) moved.block c.free.ensures.freed) in
    record {
      freeing = frees_told _ _ _ c.args.run (length c.args.page.now.bytes) (number_at c.pages.reader) (number_at c.next.new.self) c.pages.reader.at c.next.new.self.at c.pages.reader.left c.next.new.self.left c.next.new.page.bytes
          c.pages.invariant.freeing moved.fewer moved.number (c.next.ensures.read more) moved.next freed;
      later = search rules;
      given = search rules;
      same = search rules;
      come = come_on c.args.run c.pages.reader c.next.new.self c.next.new.page.bytes c.pages.invariant.come moved;
    }

pub returns-in-Err-clause-damaged : goal.returns-in-Err-clause-damaged
returns-in-Err-clause-damaged g c = λ block is.
    let fault_is = same_fault c.in-Err.fault (fault.Damaged block) is in
    let read_is : IsErrOf c.next.result (fault.Damaged block) = c.in-Err.is ∙ ap Err fault_is in
    damaged_at c.args.run c.pages.reader c.next.new.self c.next.new.page.bytes c.next.result block c.pages.invariant.come read_is c.next.ensures.end (c.next.ensures.damaged block read_is)
