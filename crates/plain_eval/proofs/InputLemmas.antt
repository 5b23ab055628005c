-- Steps of a walk along a plan's nodes and its inputs side by side.
use Rattle.std.proofs.Common.{◌≡◌, ◌≢◌, ℕ, ◌+◌, ◌<◌, true, false, cond, eqb, List, [], ◌∷◌, length, get_or, drop, map, filter, sym, ap, ◌∙◌, arith}
use Rattle.std.proofs.lemmas.List.{at_drop_more}
use Rattle.std.proofs.lemmas.Bool.Decides.{nat_tests}
use Rattle.flow_model.specs.declared.plan.Node.{Node}
use Rattle.flow_model.specs.Env.{Tuples}
use Rattle.flow_model.specs.Algebra.{rows_at, given, source_numbers, is_source}

-- the rows under a number, of the sources among the nodes and of their inputs
abbrev looked_up : ℕ → List Node → List Tuples → Tuples
looked_up n nodes lists = rows_at (given (source_numbers nodes) lists) n

other_number : (m n : ℕ) → m ≢ n → eqb m n ≡ false
other_number m n h = grind (arith, nat_tests)

-- a node that is no source takes no input
pub skip_step : (nodes : List Node) (lists : List Tuples) (n i : ℕ) (node : Node) → i < length nodes → node ≡ get_or nodes i node → is_source node.op ≡ false → looked_up n (drop i nodes) lists ≡ looked_up n (drop (i + 1) nodes) lists
skip_step nodes lists n i node h is none =
    at_drop_more (λ ns. looked_up n ns lists) nodes i node h
    ∙ ap (λ m. looked_up n (m ∷ drop (i + 1) nodes) lists) (sym is)
    ∙ ap (λ b. rows_at (given (map (λ (k : Node). k.number) (cond b (node ∷ filter (λ (k : Node). is_source k.op) (drop (i + 1) nodes)) (filter (λ (k : Node). is_source k.op) (drop (i + 1) nodes)))) lists) n) none

-- another source takes the next input
pub pass_step : (nodes : List Node) (lists : List Tuples) (n i p : ℕ) (node : Node) → i < length nodes → node ≡ get_or nodes i node → p < length lists → is_source node.op ≡ true → node.number ≢ n → looked_up n (drop i nodes) (drop p lists) ≡ looked_up n (drop (i + 1) nodes) (drop (p + 1) lists)
pass_step nodes lists n i p node h is room some other =
    at_drop_more (λ ns. looked_up n ns (drop p lists)) nodes i node h
    ∙ ap (λ m. looked_up n (m ∷ drop (i + 1) nodes) (drop p lists)) (sym is)
    ∙ ap (λ b. rows_at (given (map (λ (k : Node). k.number) (cond b (node ∷ filter (λ (k : Node). is_source k.op) (drop (i + 1) nodes)) (filter (λ (k : Node). is_source k.op) (drop (i + 1) nodes)))) (drop p lists)) n) some
    ∙ at_drop_more (λ ls. rows_at (given (node.number ∷ source_numbers (drop (i + 1) nodes)) ls) n) lists p [] room
    ∙ ap (λ b. cond b (get_or lists p []) (looked_up n (drop (i + 1) nodes) (drop (p + 1) lists))) (other_number node.number n other)
