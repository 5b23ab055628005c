-- Rows that are looked up from the end, and what a superstep leaves of what was there before.
use Rattle.std.proofs.Common.{◌≡◌, ℕ, ◌≤◌, Bool, true, false, ◌||◌, cond, eqb, List, [], ◌∷◌, ◌++◌, length, take, fold, refl, ap, ◌∙◌, arith}
use Rattle.std.specs.List.{list_any}
use Rattle.std.proofs.lemmas.List.{take-append-le, take_at, length_push}
use Rattle.flow_model.specs.declared.made.Made.{Made}
use Rattle.flow_model.specs.declared.plan.Node.{Node}
use Rattle.flow_model.specs.Env.{Tuples}
use Rattle.flow_model.specs.Solutions.{Solution}
use Rattle.flow_model.specs.Algebra.{Env, rows_at, plain_rows, body_step, superstep, nodes_of}

-- the rows under a number; other rows where nothing is
abbrev pub rows_or : Env → ℕ → Tuples → Tuples
rows_or [] n others = others
rows_or (e ∷ env) n others = cond (eqb e.number n) e.rows (rows_or env n others)

pub rows_or-none : (env : Env) (n : ℕ) → rows_or env n [] ≡ rows_at env n
rows_or-none [] n = refl
rows_or-none (e ∷ env) n = ap (cond (eqb e.number n) e.rows) (rows_or-none env n)

pub rows_or-push : (env : Env) (e : Made) (n : ℕ) (others : Tuples) → rows_or (env ++ e ∷ []) n others ≡ rows_or env n (cond (eqb e.number n) e.rows others)
rows_or-push [] e n others = refl
rows_or-push (d ∷ env) e n others = ap (cond (eqb d.number n) d.rows) (rows_or-push env e n others)

-- whether rows stand under a number
abbrev pub is_made : ℕ → Env → Bool
is_made n env = list_any (λ (e : Made). eqb e.number n) env

pub rows_or-there : (env : Env) (n : ℕ) (others : Tuples) → is_made n env ≡ true → rows_or env n others ≡ rows_at env n
rows_or-there [] n others h = cc
rows_or-there (e ∷ env) n others h = go (eqb e.number n) h (rows_or-there env n others)
  where
    go : (b : Bool) → (b || is_made n env) ≡ true → (is_made n env ≡ true → rows_or env n others ≡ rows_at env n) → cond b e.rows (rows_or env n others) ≡ cond b e.rows (rows_at env n)
    go true h rest = refl
    go false h rest = rest h

pub rows_or-absent : (env : Env) (n : ℕ) (others : Tuples) → is_made n env ≡ false → rows_or env n others ≡ others
rows_or-absent [] n others h = refl
rows_or-absent (e ∷ env) n others h = go (eqb e.number n) h (rows_or-absent env n others)
  where
    go : (b : Bool) → (b || is_made n env) ≡ false → (is_made n env ≡ false → rows_or env n others ≡ others) → cond b e.rows (rows_or env n others) ≡ others
    go true h rest = cc
    go false h rest = rest h

module _ (inputs : Env) (held : Solution) where
  take-body : (k : ℕ) (nodes : List Node) (env : Env) → k ≤ length env → take k (fold (body_step inputs held) env nodes) ≡ take k env
  take-body k [] env h = refl
  take-body k (node ∷ nodes) env h =
      let made : Made = record { number = node.number; rows = plain_rows inputs held env node.number node.op } in
      take-body k nodes (env ++ made ∷ []) (omega (arith, length_push env made)) ∙ take-append-le k env (made ∷ []) h

  -- what was there before a superstep is there after it
  take-superstep : (nodes : List Node) (env : Env) (n : ℕ) (rows : Tuples) → take (length env) (superstep inputs nodes held env n rows) ≡ env
  take-superstep nodes env n rows =
      let made : Made = record { number = n; rows = rows } in
      take-body (length env) (nodes_of n nodes) (env ++ made ∷ []) (omega (arith, length_push env made)) ∙ take_at env (made ∷ []) (length env) refl

  -- what is kept of a superstep is what was there before it
  pub kept-superstep : (nodes : List Node) (env : Env) (n : ℕ) (rows : Tuples) (made after : Env) (kept : ℕ) → kept ≡ length env → made ≡ superstep inputs nodes held env n rows → after ≡ take kept made → after ≡ env
  kept-superstep nodes env n rows made after kept long step rest =
      rest ∙ ap (λ k. take k made) long ∙ ap (take (length env)) step ∙ take-superstep nodes env n rows
