-- A record of a node's rows touches as few pages as a plan's lots take.
use Rattle.std.proofs.Common.{◌≡◌, ℕ, ◌+◌, ◌-◌, ◌*◌, ◌/◌, div-lt_iff_lt-mul, ◌<◌, ◌≤◌, Bool, true, false, cond, ◌==◌, List, [], ◌∷◌, fold, max, subst, arith, Some}
use Rattle.std.specs.Int.{div_ceil}
use Rattle.std.proofs.lemmas.Bool.Decides.{nat_tests}
use Rattle.std.proofs.lemmas.Grind.{div_ceil_times}
use Rattle.flow_types.specs.Types.{Fields, widest}
use Rattle.flow_model.specs.declared.plan.Node.{Node}
use Rattle.flow_model.specs.declared.plan.Plan.{Plan}
use Rattle.flow_model.specs.Rules.{is_segment_size, node_at}
use Rattle.flow_model.specs.Segments.{reach, widest_record}
use Rattle.row_pipe.specs.Pipes.{GivesWithin, most_touched}
use Rattle.row_pipe.specs.Works.{GivesNarrow}
use Rattle.row_pipe.specs.declared.work.Work.{Work}
use Rattle.row_pipe.proofs.LawLemmas.{narrow_within}

-- The greatest of numbers is at least each of them, and at least what it began with.
most-grows : (nodes : List Node) (n : ℕ) → n ≤ fold (λ most (node : Node). max most (widest node.schema)) n nodes
most-grows [] n = omega arith
most-grows (x ∷ xs) n = omega (arith, most-grows xs (max n (widest x.schema)), omega_max n (widest x.schema))
  where
    omega_max : (a b : ℕ) → a ≤ max a b
    omega_max a b = omega arith

most-found : (nodes : List Node) (n k : ℕ) (node : Node) → node_at nodes k ≡ Some node → widest node.schema ≤ fold (λ most (m : Node). max most (widest m.schema)) n nodes
most-found [] n k node e = cc
most-found (x ∷ xs) n k node e = go (x.number == k) e (λ f. most-found xs (max n (widest x.schema)) k node f)
  where
    second : (a b : ℕ) → b ≤ max a b
    second a b = omega arith

    go : (b : Bool) → cond b (Some x) (node_at xs k) ≡ Some node → (node_at xs k ≡ Some node → widest node.schema ≤ fold (λ most (m : Node). max most (widest m.schema)) (max n (widest x.schema)) xs)
        → widest node.schema ≤ fold (λ most (m : Node). max most (widest m.schema)) (max n (widest x.schema)) xs
    go true f later =
        let same : x ≡ node = cc in
        subst (λ (y : Node). widest y.schema ≤ fold (λ most (m : Node). max most (widest m.schema)) (max n (widest x.schema)) xs) same
        (omega (arith, most-grows xs (max n (widest x.schema)), second n (widest x.schema)))
    go false f later = later f

pub widest_below : (plan : Plan) (k : ℕ) (node : Node) → node_at plan.nodes k ≡ Some node → widest node.schema ≤ widest_record plan
widest_below plan k node found = most-found plan.nodes 0 k node found

pub segment_large : (n : ℕ) → is_segment_size n ≡ true → 4096 ≤ n
segment_large n h = grind (arith, nat_tests)

-- What a node's pipe gives touches as few pages as each lot takes.
distribute : (c y : ℕ) → (c + 1) * y ≡ c * y + y
distribute c y = omega arith

pub touched_low : (size bytes most : ℕ) → 16 < size → bytes ≤ most → most_touched size bytes ≤ div_ceil (most + 4) (size - 16) + 1
touched_low size bytes most large less =
    let y = size - 16 in
    let some : 0 < y = omega (arith, large) in
    let c = div_ceil (most + 4) y in
    let enough : most + 4 ≤ c * y = (div_ceil_times (most + 4) y some).0 in
    let below : 4 + bytes + y - 1 < (c + 1) * y = omega (arith, less, some, enough, distribute c y) in
    let last : (4 + bytes + y - 1) / y < c + 1 = (div-lt_iff_lt-mul some).1 below in
    omega (arith, last)

pub within_reach : (plan : Plan) (fields : Fields) (w : Work) (k : ℕ) (node : Node) → is_segment_size plan.segment ≡ true → node_at plan.nodes k ≡ Some node → GivesNarrow fields w (widest node.schema)
    → GivesWithin fields w plan.segment (reach plan)
within_reach plan fields w k node size found narrow =
    let large : 16 < plan.segment = omega (arith, segment_large plan.segment size) in
    narrow_within fields w (widest node.schema) plan.segment (reach plan) large narrow
    (touched_low plan.segment (widest node.schema) (widest_record plan) large (widest_below plan k node found))
