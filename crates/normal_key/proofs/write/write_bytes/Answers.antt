use Rattle.std.proofs.Common.{ℕ, Bool, List, [], ◌∷◌, map, take, ap, sym, ◌∙◌}
use Rattle.std.proofs.lemmas.List.{map_more}
use Rattle.normal_key.specs.NormalForms.{turned}
use Rattle.normal_key.proofs.WrittenLemmas.{adds_next, adds_same}
use Rattle.normal_key.proofs.TurnedLemmas.{plain_turned}
use Rattle.normal_key.proofs.write.write_bytes.Goals as goal

pub loop-byte-preserved : goal.loop-byte-preserved
loop-byte-preserved c =
    let done : List ℕ = map (turned c.args.down) (take c.loop-byte.byte-index c.args.bytes.now) in
    adds_next c.args.prefix.now c.loop-byte.prefix c.push.new.self done (c.turn.result ∷ []) _
    c.loop-byte.invariant c.push.ensures
    (ap (λ (b : ℕ). Rattle.std.proofs.Common.◌++◌ done (b ∷ [])) c.turn.ensures ∙ sym (map_more (turned c.args.down) c.args.bytes.now c.loop-byte.byte-index 0 c.loop-byte-test.true))

pub returns-then-bytes-len : goal.returns-then-bytes-len
returns-then-bytes-len c =
    adds_same c.args.prefix.now c.extend.new.self c.args.bytes.now _ c.extend.ensures
    (sym (ap (λ (d : Bool). map (turned d) c.args.bytes.now) c.if-not-down.true ∙ plain_turned c.args.bytes.now))
