-- The rows of the sources before one, and where the reading of inputs stops.
use Rattle.std.proofs.Common.{◌≡◌, ℕ, ◌+◌, ◌<◌, ◌≤◌, List, [], ◌∷◌, ◌++◌, length, take, drop, filter, get_or, cond, not, Bool, true, false, Option, Some, None, refl, sym, ap, ◌∙◌, subst, arith}
use Rattle.std.specs.Prelude.{is_some}
use Rattle.std.specs.Str.{bytes_eq}
use Rattle.std.proofs.lemmas.Slice.Eq.{bytes_eq-Decides}
use Rattle.std.proofs.lemmas.List.{drop_more, take-append-drop}
use Rattle.std.proofs.lemmas.List.Elements.{filter_more, filter-append}
use Rattle.flow_outside.specs.Causes.{Rose}
use Rattle.flow_outside.specs.Files.{Files, IfFileTold}
use Rattle.flow_types.specs.Tuples.{Tuple}
use Rattle.flow_model.specs.declared.plan.Node.{Node}
use Rattle.flow_model.specs.Algebra.{is_source}
use Rattle.job_words.specs.Words.{Binding}
use Rattle.job_report.specs.declared.fault.Fault.{Fault}
use Rattle.job_report.specs.declared.fault.Fault.TheVariants as fault
use Rattle.job_inputs.specs.Sources.{binding_at, first_unbound}
use Rattle.job_inputs.specs.Inputs.{path_in, path_of, HasRows, HaveRows, StopsAt}
use Rattle.job_inputs.specs.InputEnds.{EndsReadingInput, StopsReading, EndsReadingInputs}

abbrev pub sources : List Node → List Node
sources nodes = filter (λ (node : Node). is_source node.op) nodes

-- one source more
pub have_more : (files : Option Files) (bs : List Binding) (front : List Node) (source : Node) (lists : List (List Tuple)) (rows : List Tuple)
    → HaveRows files bs front lists → HasRows files (path_of bs source) source rows → HaveRows files bs (front ++ source ∷ []) (lists ++ rows ∷ [])
have_more files bs [] source [] rows h r = (r, tt)
have_more files bs [] source (x ∷ xs) rows h r = absurd h
have_more files bs (n ∷ ns) source [] rows h r = absurd h
have_more files bs (n ∷ ns) source (x ∷ xs) rows h r = (h.0, have_more files bs ns source xs rows h.1 r)

-- a node at a place, before what is behind it
at_place : (nodes : List Node) (i : ℕ) (x : Node) → i < length nodes → x ≡ get_or nodes i x → drop i nodes ≡ x ∷ drop (i + 1) nodes
at_place nodes i x low at = drop_more nodes i x low ∙ ap (λ (y : Node). y ∷ drop (i + 1) nodes) (sym at)

-- a step over a source, and over another node
taken_on : (nodes : List Node) (i : ℕ) (x : Node) (b : Bool) → i < length nodes → x ≡ get_or nodes i x → is_source x.op ≡ b
    → sources (take (i + 1) nodes) ≡ sources (take i nodes) ++ cond b (x ∷ []) []
taken_on nodes i x b low at is =
    filter_more (λ (node : Node). is_source node.op) nodes i x low
    ∙ ap (λ (y : Node). sources (take i nodes) ++ cond (is_source y.op) (y ∷ []) []) (sym at)
    ∙ ap (λ c. sources (take i nodes) ++ cond c (x ∷ []) []) is

nothing_more : (xs : List Node) → xs ++ [] ≡ xs
nothing_more [] = refl
nothing_more (x ∷ xs) = ap (λ ys. x ∷ ys) (nothing_more xs)

pub rows_on : (files files' : Option Files) (bs : List Binding) (nodes : List Node) (i : ℕ) (x : Node) (lists lists' : List (List Tuple)) (rows : List Tuple)
    → i < length nodes → x ≡ get_or nodes i x → is_source x.op ≡ true → files' ≡ files → HaveRows files bs (sources (take i nodes)) lists
    → HasRows files' (path_of bs x) x rows → lists' ≡ lists ++ rows ∷ [] → HaveRows files bs (sources (take (i + 1) nodes)) lists'
rows_on files files' bs nodes i x lists lists' rows low at is same have has more =
    subst (λ (ls : List (List Tuple)). HaveRows files bs (sources (take (i + 1) nodes)) ls) (sym more)
    (subst (λ (ss : List Node). HaveRows files bs ss (lists ++ rows ∷ [])) (sym (taken_on nodes i x true low at is))
    (have_more files bs (sources (take i nodes)) x lists rows have (subst (λ (f : Option Files). HasRows f (path_of bs x) x rows) same has)))

pub rows_stay : (files : Option Files) (bs : List Binding) (nodes : List Node) (i : ℕ) (x : Node) (lists lists' : List (List Tuple))
    → i < length nodes → x ≡ get_or nodes i x → is_source x.op ≡ false → HaveRows files bs (sources (take i nodes)) lists
    → lists' ≡ lists → HaveRows files bs (sources (take (i + 1) nodes)) lists'
rows_stay files bs nodes i x lists lists' low at is have stay =
    subst (λ (ls : List (List Tuple)). HaveRows files bs (sources (take (i + 1) nodes)) ls) (sym stay)
    (subst (λ (ss : List Node). HaveRows files bs ss lists) (sym (taken_on nodes i x false low at is ∙ nothing_more (sources (take i nodes)))) have)

-- what is left of the sources, from a node on
left_sources : (nodes : List Node) (i : ℕ) (x : Node) (b : Bool) → i < length nodes → x ≡ get_or nodes i x → is_source x.op ≡ b
    → sources (drop i nodes) ≡ cond b (x ∷ sources (drop (i + 1) nodes)) (sources (drop (i + 1) nodes))
left_sources nodes i x b low at is =
    ap sources (at_place nodes i x low at)
    ∙ ap (λ c. cond c (x ∷ sources (drop (i + 1) nodes)) (sources (drop (i + 1) nodes))) is

-- the first of sources that are all bound is bound, and the others are
bound_head : (o : Option Binding) (source : Node) (rest : Option Node) → cond (not (is_some o)) (Some source) rest ≡ None → (is_some o ≡ true) × (rest ≡ None)
bound_head None source rest h = cc
bound_head (Some b) source rest h = (refl, h)

pub is_bound : (bs : List Binding) (nodes : List Node) (i : ℕ) (x : Node) → i < length nodes → x ≡ get_or nodes i x → is_source x.op ≡ true
    → first_unbound bs (sources (drop i nodes)) ≡ None
    → (is_some (binding_at bs x.name) ≡ true) × (first_unbound bs (sources (drop (i + 1) nodes)) ≡ None)
is_bound bs nodes i x low at is h =
    bound_head (binding_at bs x.name) x (first_unbound bs (sources (drop (i + 1) nodes)))
    (sym (ap (first_unbound bs) (left_sources nodes i x true low at is)) ∙ h)

pub are_bound : (bs : List Binding) (nodes : List Node) (i : ℕ) (x : Node) → i < length nodes → x ≡ get_or nodes i x → is_source x.op ≡ false
    → first_unbound bs (sources (drop i nodes)) ≡ None → first_unbound bs (sources (drop (i + 1) nodes)) ≡ None
are_bound bs nodes i x low at is h = sym (ap (first_unbound bs) (left_sources nodes i x false low at is)) ∙ h

rose_from : (a b c : ℕ) → a ≤ b → Rose b c → Rose a c
rose_from a b c h r = omega arith

-- the first source that gives no rows is where the reading of all stops
pub ends_at : (files files' : Option Files) (bs : List Binding) (nodes : List Node) (i : ℕ) (x : Node) (lists : List (List Tuple)) (before middle after : List ℕ → ℕ) (name : List ℕ) (why : Fault)
    → i < length nodes → x ≡ get_or nodes i x → is_source x.op ≡ true → HaveRows files bs (sources (take i nodes)) lists
    → files' ≡ files → ((k : List ℕ) → before k ≤ middle k)
    → StopsReading files' bs x middle after name why → EndsReadingInputs files bs (sources nodes) before after name why
ends_at files files' bs nodes i x lists before middle after name why low at is have same up stop = by why named ends
  where
    here : StopsReading files bs x middle after name why
    here = subst (λ (f : Option Files). StopsReading f bs x middle after name why) same stop

    named : name ≡ x.name
    named = here.named

    ends : EndsReadingInput x files (path_of bs x) (middle (path_of bs x)) (after (path_of bs x)) why
    ends = here.ends

    stops : StopsAt files bs (sources nodes) x
    stops = record {
      front = sources (take i nodes);
      back = sources (drop (i + 1) nodes);
      parts = sym (ap sources (take-append-drop i nodes))
          ∙ filter-append (λ (node : Node). is_source node.op) (take i nodes) (drop i nodes)
          ∙ ap (λ rest. sources (take i nodes) ++ rest) (left_sources nodes i x true low at is);
      lists = lists;
      read = have;
    }

    by : (f : Fault) → name ≡ x.name → EndsReadingInput x files (path_of bs x) (middle (path_of bs x)) (after (path_of bs x)) f
        → EndsReadingInputs files bs (sources nodes) before after name f
    by fault.Usage n e = absurd e
    by (fault.PlanRefused node code) n e = absurd e
    by (fault.InputRefused number line field kind) n e = record { source = x; stops = stops; named = n; unread = e }
    by (fault.ReadFault number) n e = record {
      source = x;
      stops = stops;
      named = n;
      numbered = e.0;
      rose = rose_from (before (path_of bs x)) (middle (path_of bs x)) (after (path_of bs x)) (up (path_of bs x)) e.1;
    }
    by fault.WriteFault n e = absurd e
    by fault.Memory n e = tt
    by (fault.TooSmall need have) n e = absurd e
    by (fault.Unbound name) n e = absurd e
    by (fault.SpillFault worker) n e = absurd e
    by (fault.Damaged worker block) n e = absurd e
    by (fault.SolutionFull node step worker need have) n e = absurd e

-- a binding that was found has the name
same_name : (b : Bool) (x y : Binding) (rest : Option Binding) (name : List ℕ) → bytes_eq x.name name ≡ b → (rest ≡ Some y → y.name ≡ name) → cond b (Some x) rest ≡ Some y → y.name ≡ name
same_name true x y rest name eq later h =
    let found : x ≡ y = cc in
    ap (λ (b : Binding). b.name) (sym found) ∙ (bytes_eq-Decides x.name name).0 eq
same_name false x y rest name eq later h = later h

pub found_name : (bs : List Binding) (name : List ℕ) (b : Binding) → binding_at bs name ≡ Some b → b.name ≡ name
found_name [] name b h = cc
found_name (x ∷ xs) name b h = same_name (bytes_eq x.name name) x b (binding_at xs name) name refl (found_name xs name b) h

-- the binding of a source that gives no rows
pub stops_reading : (files : Option Files) (bs : List Binding) (source : Node) (before after : List ℕ → ℕ) (b : Binding) (why : Fault) → binding_at bs source.name ≡ Some b
    → EndsReadingInput source files b.path (before b.path) (after b.path) why → StopsReading files bs source before after b.name why
stops_reading files bs source before after b why found ends = record {
  named = found_name bs source.name b found;
  ends = subst (λ (o : Option Binding). EndsReadingInput source files (path_in o) (before (path_in o)) (after (path_in o)) why) (sym found) ends;
}

-- the rows of a source in the file that it is bound to
pub bound_rows : (files : Option Files) (bs : List Binding) (source : Node) (b : Binding) (rows : List Tuple) → binding_at bs source.name ≡ Some b
    → HasRows files b.path source rows → HasRows files (path_of bs source) source rows
bound_rows files bs source b rows found has = subst (λ (o : Option Binding). HasRows files (path_in o) source rows) (sym found) has
