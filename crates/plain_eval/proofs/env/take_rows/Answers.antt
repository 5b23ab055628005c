use Rattle.std.proofs.Common.{◌≡◌, ◌≤◌, true, false, [], ◌∷◌, ◌++◌, length, take, refl, sym, ap, subst, ◌∙◌, arith}
use Rattle.std.specs.Prelude.{IfOk}
use Rattle.std.proofs.lemmas.List.{take-append-le, length_push}
use Rattle.flow_model.specs.Algebra.{rows_at}
use Rattle.plain_eval.proofs.EnvLemmas.{rows_or, rows_or-none, rows_or-push, is_made, rows_or-there, rows_or-absent}
use Rattle.plain_eval.proofs.env.take_rows.Goals as goal

pub loop-made-init : goal.loop-made-init
loop-made-init c = record {
  same = sym (ap (rows_or c.args.made.now.items c.args.number) c.new-found.ensures.items ∙ rows_or-none c.args.made.now.items c.args.number);
  rest = refl;
}

pub loop-made-preserved : goal.loop-made-preserved
loop-made-preserved c =
    let before = c.loop-made.made.items in
    let after = c.pop.new.self.items in
    let found = c.loop-made.found.items in
    let n = c.args.number in
    let popped : before ≡ after ++ c.in-Some.last ∷ [] = c.in-Some.ensures.items in
    let long : c.args.kept ≤ length after = omega (arith, ap length popped, length_push after c.in-Some.last) in
    record {
      same = c.loop-made.invariant.same ∙ ap (λ env. rows_or env n found) popped ∙ rows_or-push after c.in-Some.last n found ∙ ap (rows_or after n) (sym c.rows_or-found.ensures);
      rest = sym (take-append-le c.args.kept after (c.in-Some.last ∷ []) long) ∙ ap (take c.args.kept) (sym popped) ∙ c.loop-made.invariant.rest;
    }

pub returns-then-is_made-clause-rows : goal.returns-then-is_made-clause-rows
returns-then-is_made-clause-rows c =
    let n = c.args.number in
    let made = c.loop-made.made.items in
    let there : is_made n made ≡ true = ap (is_made n) (sym c.as_slice.ensures.value) ∙ sym c.is_made.ensures ∙ c.if-is_made.true in
    subst (λ rows. IfOk c.copy_rows.result (λ copied. copied.items ≡ rows))
    (c.rows_at.ensures ∙ ap (λ env. rows_at env n) c.as_slice-then-is_made.ensures.value ∙ sym (c.loop-made.invariant.same ∙ rows_or-there made n c.loop-made.found.items there)) c.copy_rows.ensures

pub returns-clause-rows : goal.returns-clause-rows
returns-clause-rows c =
    let n = c.args.number in
    let made = c.loop-made.made.items in
    let absent : is_made n made ≡ false = ap (is_made n) (sym c.as_slice.ensures.value) ∙ sym c.is_made.ensures ∙ c.if-is_made.false in
    sym (c.loop-made.invariant.same ∙ rows_or-absent made n c.loop-made.found.items absent)
