use Rattle.std.proofs.Common.{◌≡◌, ℕ, ◌+◌, ◌-◌, ◌<◌, List, [], ◌++◌, length, map, vec_len, Ok, Result, sym, ap, ◌∙◌, arith, append_assoc, append-nil}
use Rattle.std.proofs.lemmas.List.{at_drop_all}
use Rattle.serde_json.specs.View.{view}
use Rattle.plan_text.specs.declared.tree.TreeNode.{TreeNode}
use Rattle.plan_text.specs.Nodes.{alone, placed_with, placed_up_to, count_with, count_up_to, nodes_of}
use Rattle.plan_text.proofs.NodeLemmas.{no_deeper, placed_opened, count_opened, onto, onto-none, vec_grown, single_node, item_fault, body_refused, body_fits, rest_fits, read_more, IsFault-on}
use Rattle.plan_text.proofs.numbering.+read_list.Goals as goal

pub returns-then-depth-eq0 : goal.returns-then-depth-eq0
returns-then-depth-eq0 t c =
    let ds = map view c.args.items.now in
    let n = vec_len c.args.nodes.now + 1 in (
      [],
      ap (λ d. nodes_of (placed_up_to d c.args.home n ds)) c.if-depth-eq0.true ∙ ap nodes_of (no_deeper c.args.home n ds),
      sym (append-nil c.args.nodes.now.items),
    )

pub loop-item-init : goal.loop-item-init
loop-item-init t c =
    let ds = map view c.args.items.now in
    let some : 0 < c.args.depth = omega (arith, c.if-depth-eq0.false) in
    let opened = count_opened c.args.depth ds some in
    record {
      some = some;
      few = omega (arith, opened, c.requires);
      more = [];
      added = sym (append-nil c.args.nodes.now.items);
      read = onto-none (nodes_of (placed_with (placed_up_to (c.args.depth - 1)) c.args.home (vec_len c.args.nodes.now + 1) ds));
    }

pub returns-in-Err : goal.returns-in-Err
returns-in-Err t c =
    let l = c.loop-item in
    let home = c.args.home in
    let v = c.item-item.result in
    let n = vec_len c.args.nodes.now + 1 in
    let ds = map view c.args.items.now in
    IsFault-on c.in-Err.fault (nodes_of (alone (c.len.result + 1) home (view v))) (nodes_of (placed_up_to c.args.depth home n ds)) c.in-Err.ensures
    (λ first. ap nodes_of (placed_opened c.args.depth home n ds l.invariant.some)
    ∙ item_fault (placed_up_to (c.args.depth - 1)) home (vec_len l.nodes + 1) c.args.items.now l.item-index v l.invariant.more c.in-Err.fault
    (nodes_of (placed_with (placed_up_to (c.args.depth - 1)) home n ds)) (omega arith) c.item-item.is l.invariant.read
    (ap (λ m. nodes_of (alone (m + 1) home (view v))) (sym c.len.ensures) ∙ first))

pub read_list-requires : goal.read_list-requires
read_list-requires t c =
    let l = c.loop-item in
    let home = c.args.home in
    let v = c.item-item.result in
    let one = c.in-Ok.ensures.0 in
    let single : length one ≡ 1 = single_node (c.len.result + 1) home v one c.in-Ok.ensures.1 in
    let grown : vec_len c.read_node.new.nodes ≡ vec_len l.nodes + length one = vec_grown l.nodes c.read_node.new.nodes one c.in-Ok.ensures.2 in (
      omega (arith, l.invariant.some, c.decreases),
      body_fits (c.args.depth - 1) c.args.items.now l.item-index v c.body_of.result.now (vec_len l.nodes) (vec_len c.read_node.new.nodes) (omega arith) c.item-item.is c.body_of.ensures
          (omega (arith, grown, single)) l.invariant.few,
    )

pub returns-in-Err-read_list : goal.returns-in-Err-read_list
returns-in-Err-read_list t c =
    let l = c.loop-item in
    let home = c.args.home in
    let v = c.item-item.result in
    let n = vec_len c.args.nodes.now + 1 in
    let ds = map view c.args.items.now in
    let one = c.in-Ok.ensures.0 in
    let inner = map view c.body_of.result.now in
    let mid = vec_len c.read_node.new.nodes in
    IsFault-on c.in-Err-read_list.fault (nodes_of (placed_up_to (c.args.depth - 1) (c.len.result + 1) (mid + 1) inner)) (nodes_of (placed_up_to c.args.depth home n ds)) c.in-Err-read_list.ensures
    (λ second. ap nodes_of (placed_opened c.args.depth home n ds l.invariant.some)
    ∙ body_refused (c.args.depth - 1) home c.args.items.now l.item-index v c.body_of.result.now (vec_len l.nodes) mid l.invariant.more one c.in-Err-read_list.fault
    (nodes_of (placed_with (placed_up_to (c.args.depth - 1)) home n ds)) (omega arith) c.item-item.is c.body_of.ensures
    (ap (λ m. nodes_of (alone (m + 1) home (view v))) (sym c.len.ensures) ∙ c.in-Ok.ensures.1)
    (vec_grown l.nodes c.read_node.new.nodes one c.in-Ok.ensures.2) l.invariant.read
    (ap (λ m. nodes_of (placed_up_to (c.args.depth - 1) (m + 1) (mid + 1) inner)) (sym c.len.ensures) ∙ second))

pub loop-item-preserved : goal.loop-item-preserved
loop-item-preserved t c =
    let l = c.loop-item in
    let home = c.args.home in
    let v = c.item-item.result in
    let old = c.args.nodes.now.items in
    let more = l.invariant.more in
    let one = c.in-Ok.ensures.0 in
    let two = c.in-Ok-read_list.ensures.0 in
    let inner = map view c.body_of.result.now in
    let mid = vec_len c.read_node.new.nodes in
    let first : nodes_of (alone (vec_len l.nodes + 1) home (view v)) ≡ Ok one = ap (λ m. nodes_of (alone (m + 1) home (view v))) (sym c.len.ensures) ∙ c.in-Ok.ensures.1 in
    let second : nodes_of (placed_up_to (c.args.depth - 1) (vec_len l.nodes + 1) (mid + 1) inner) ≡ Ok two =
    ap (λ m. nodes_of (placed_up_to (c.args.depth - 1) (m + 1) (mid + 1) inner)) (sym c.len.ensures) ∙ c.in-Ok-read_list.ensures.1 in
    let single : length one ≡ 1 = single_node (vec_len l.nodes + 1) home v one first in
    let grown : mid ≡ vec_len l.nodes + length one = vec_grown l.nodes c.read_node.new.nodes one c.in-Ok.ensures.2 in
    let next : vec_len c.read_list.new.nodes ≡ mid + length two = vec_grown c.read_node.new.nodes c.read_list.new.nodes two c.in-Ok-read_list.ensures.2 in
    record {
      some = l.invariant.some;
      few = rest_fits (c.args.depth - 1) home c.args.items.now l.item-index v c.body_of.result.now (vec_len l.nodes) mid (vec_len c.read_list.new.nodes) two (omega arith) c.item-item.is c.body_of.ensures
          (omega (arith, grown, single)) second next l.invariant.few;
      more = (more ++ one) ++ two;
      added = c.in-Ok-read_list.ensures.2 ∙ ap (λ (ns : List TreeNode). ns ++ two) (c.in-Ok.ensures.2 ∙ ap (λ (ns : List TreeNode). ns ++ one) l.invariant.added ∙ append_assoc old more one)
          ∙ append_assoc old (more ++ one) two;
      read = read_more (c.args.depth - 1) home c.args.items.now l.item-index v c.body_of.result.now (vec_len l.nodes) mid (vec_len c.read_list.new.nodes) more one two _ (omega arith) c.item-item.is c.body_of.ensures
          first second grown next l.invariant.read;
    }

pub returns : goal.returns
returns t c =
    let l = c.loop-item in
    let home = c.args.home in
    let n = vec_len c.args.nodes.now + 1 in
    let ds = map view c.args.items.now in
    let more = l.invariant.more in (
      more,
      ap nodes_of (placed_opened c.args.depth home n ds l.invariant.some) ∙ l.invariant.read
          ∙ at_drop_all (λ vs. onto more (nodes_of (placed_with (placed_up_to (c.args.depth - 1)) home (vec_len l.nodes + 1) (map view vs)))) c.args.items.now l.item-index (omega arith)
          ∙ ap Ok (append-nil more),
      l.invariant.added,
    )
