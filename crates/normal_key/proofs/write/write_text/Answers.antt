use Rattle.std.proofs.Common.{ℕ, List, ◌-◌, map, take, drop, length, ◌≡◌, ap, sym, ◌∙◌, inl, inr, arith, length-drop}
use Rattle.std.proofs.lemmas.List.{length-take-le, take-take}
use Rattle.std.specs.List.{flat_map}
use Rattle.normal_key.specs.NormalForms.{escaped, turned}
use Rattle.normal_key.proofs.WrittenLemmas.{adds_same}
use Rattle.std.proofs.lemmas.Bool.{leb-true}
use Rattle.normal_key.proofs.TextLemmas.{text_more, text_done}
use Rattle.normal_key.proofs.write.write_text.Goals as goal
use Rattle.normal_key.proofs.write.write_text.Goals.{then-loop-at-test+else-not-is_full, else-loop-at-test}

pub loop-at-preserved : goal.loop-at-preserved
loop-at-preserved g c = record {
  began = omega (arith, c.loop-at.invariant.began);
  order = omega (arith, c.loop-at-test.true);
  same = text_more c.args.down (g.X.Span.seen c.args.row.now) c.args.prefix.now c.loop-at.prefix c.write_escaped.new.prefix c.args.start c.loop-at.at c.args.end c.at.result
      c.loop-at.invariant.began (omega (arith, c.loop-at-test.true)) c.requires.inside c.at.ensures c.loop-at.invariant.same c.write_escaped.ensures;
}

pub returns : goal.returns
returns g c =
    let text : List ℕ = take (c.args.end - c.args.start) (drop c.args.start (g.X.Span.seen c.args.row.now)) in
    let long : length text ≡ c.args.end - c.args.start =
    length-take-le (c.args.end - c.args.start) (drop c.args.start (g.X.Span.seen c.args.row.now)) (omega (arith, c.requires.inside, length-drop c.args.start (g.X.Span.seen c.args.row.now))) in
    text_done c.args.down c.args.prefix.now c.loop-at.prefix c.write_bytes.new.prefix text (c.loop-at.at - c.args.start)
    (elim c.loop-at-test.branch [
      | then-loop-at-test+else-not-is_full w ↦ inr (leb-true 16 (length c.loop-at.prefix) (sym w.is_full.ensures ∙ w.if-not-is_full.false))
      | else-loop-at-test w ↦ inl (omega (arith, w.loop-at-test.false, long))
    ])
    (adds_same c.args.prefix.now c.loop-at.prefix _ _ c.loop-at.invariant.same
    (ap (λ (bs : List ℕ). map (turned c.args.down) (flat_map escaped bs))
    (sym (take-take (c.loop-at.at - c.args.start) (c.args.end - c.args.start) (drop c.args.start (g.X.Span.seen c.args.row.now)) (omega (arith, c.loop-at.invariant.order))))))
    c.write_bytes.ensures
