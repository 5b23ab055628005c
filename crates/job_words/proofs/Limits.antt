-- What words ask for has its numbers in their limits.
use Rattle.std.proofs.Common.{◌≡◌, ℕ, ◌≤◌, Bool, true, false, cond, ◌&&◌, ◌==◌, List, drop, length, refl, subst, arith, Option, Some, None}
use Rattle.std.specs.Prelude.{nat_le, codes, option_map}
use Rattle.std.specs.Str.Parse.{digits_value}
use Rattle.std.proofs.lemmas.Bool.Decides.{nat_tests}
use Rattle.flow_types.specs.Decimal.{is_numeral, number_up_to}
use Rattle.flow_types.specs.ExprTypes.{◌>>=◌}
use Rattle.job_words.specs.declared.program.Program.{Program}
use Rattle.job_words.specs.declared.program.Program.TheVariants as program
use Rattle.job_words.specs.Words.{Binding, Budget, Task, Asked, not_below, number_of, is_word, bindings_of, worker_limit, segment_limit, word_at, is_command, ask, check_of, need_of, budget_of, run_with, flink_asked, plain_asked, asked_of, IsBudgetWithin, IsWithin}

le_of : (m n : ℕ) → nat_le m n ≡ true → m ≤ n
le_of m n e = grind (arith, nat_tests)

same_limit : (m n k : ℕ) → Some m ≡ Some n → m ≤ k → n ≤ k
same_limit m n k e low = let same : m ≡ n = cc in omega (arith, same, low)

up_to_limit : (most : ℕ) (word : List ℕ) (n : ℕ) → number_up_to most word ≡ Some n → n ≤ most
up_to_limit most word n e = go (is_numeral word) (nat_le (digits_value 10 word) most) refl e
  where
    go : (a b : Bool) → nat_le (digits_value 10 word) most ≡ b → cond (a && b) (Some (digits_value 10 word)) None ≡ Some n → n ≤ most
    go true true f h = same_limit (digits_value 10 word) n most h (le_of (digits_value 10 word) most f)
    go true false f h = cc
    go false b f h = cc

number_within : (least most : ℕ) (word : List ℕ) (n : ℕ) → number_of least most word ≡ Some n → (least ≤ n) × (n ≤ most)
number_within least most word n e = go (nat_le (length word) 10) (number_up_to most word) refl e
  where
    found : (m : ℕ) (b : Bool) → nat_le least m ≡ b → m ≤ most → cond b (Some m) None ≡ Some n → (least ≤ n) × (n ≤ most)
    found m true f high h = let same : m ≡ n = cc in let low = le_of least m f in (omega (arith, same, low), omega (arith, same, high))
    found m false f high h = cc

    go : (b : Bool) (o : Option ℕ) → number_up_to most word ≡ o → cond b (not_below least o) None ≡ Some n → (least ≤ n) × (n ≤ most)
    go false o f h = cc
    go true None f h = cc
    go true (Some m) f h = found m (nat_le least m) refl (up_to_limit most word m f) h

check_within : (command plan : List ℕ) (a : Asked) → check_of command plan ≡ Some a → IsWithin a.task
check_within command plan a e = go (is_command (codes "check") command plan) e
  where
    go : (b : Bool) → cond b (Some (ask plan Task.check)) None ≡ Some a → IsWithin a.task
    go true h = let same : ask plan Task.check ≡ a = cc in subst (λ (x : Asked). IsWithin x.task) same tt
    go false h = cc

need_within : (command plan workers : List ℕ) (a : Asked) → need_of command plan workers ≡ Some a → IsWithin a.task
need_within command plan workers a e = go (is_command (codes "need") command plan) (number_of 1 worker_limit workers) refl e
  where
    found : (w : ℕ) → number_of 1 worker_limit workers ≡ Some w → Some (ask plan (Task.need w)) ≡ Some a → IsWithin a.task
    found w f h = let same : ask plan (Task.need w) ≡ a = cc in subst (λ (x : Asked). IsWithin x.task) same (number_within 1 worker_limit workers w f)

    go : (b : Bool) (o : Option ℕ) → number_of 1 worker_limit workers ≡ o → cond b (o >>= λ w. Some (ask plan (Task.need w))) None ≡ Some a → IsWithin a.task
    go false o f h = cc
    go true None f h = cc
    go true (Some w) f h = found w f h

budget_within : (workers segments : List ℕ) (b : Budget) → budget_of workers segments ≡ Some b → IsBudgetWithin b
budget_within workers segments b e = go (number_of 1 worker_limit workers) refl (number_of 1 segment_limit segments) refl e
  where
    found : (w s : ℕ) → number_of 1 worker_limit workers ≡ Some w → number_of 1 segment_limit segments ≡ Some s → Some (record { workers = w; segments = s }) ≡ Some b → IsBudgetWithin b
    found w s f g h =
        let same : record { workers = w; segments = s } ≡ b = cc in
        let ws = number_within 1 worker_limit workers w f in
        subst IsBudgetWithin same (record { some_workers = ws.0; few_workers = ws.1; few_segments = (number_within 1 segment_limit segments s g).1 })

    go : (w : Option ℕ) → number_of 1 worker_limit workers ≡ w → (s : Option ℕ) → number_of 1 segment_limit segments ≡ s → (w >>= λ w. s >>= λ s. Some (record { workers = w; segments = s })) ≡ Some b → IsBudgetWithin b
    go None f s g h = cc
    go (Some w) f None g h = cc
    go (Some w) f (Some s) g h = found w s f g h

run_within : (plan : List ℕ) (budget : Option (Option Budget)) (bindings : Option (List Binding)) (a : Asked) → ((b : Budget) → budget ≡ Some (Some b) → IsBudgetWithin b) → run_with plan budget bindings ≡ Some a → IsWithin a.task
run_within plan None bindings a w e = cc
run_within plan (Some budget) None a w e = cc
run_within plan (Some None) (Some bs) a w e = let same : ask plan (Task.run None bs) ≡ a = cc in subst (λ (x : Asked). IsWithin x.task) same tt
run_within plan (Some (Some b)) (Some bs) a w e = let same : ask plan (Task.run (Some b) bs) ≡ a = cc in subst (λ (x : Asked). IsWithin x.task) same (w b refl)

budget_some : (workers segments : List ℕ) (b : Budget) → option_map Some (budget_of workers segments) ≡ Some (Some b) → IsBudgetWithin b
budget_some workers segments b e = go (budget_of workers segments) refl e
  where
    go : (o : Option Budget) → budget_of workers segments ≡ o → option_map Some o ≡ Some (Some b) → IsBudgetWithin b
    go None f h = cc
    go (Some c) f h = let same : c ≡ b = cc in subst IsBudgetWithin same (budget_within workers segments c f)

flink_within : (words : List (List ℕ)) (a : Asked) → flink_asked words ≡ Some a → IsWithin a.task
flink_within words a e = go (length words == 2) (length words == 3) (nat_le 4 (length words)) (is_command (codes "run") (word_at words 0) (word_at words 1)) e
  where
    go : (two three four run : Bool) → cond two (check_of (word_at words 0) (word_at words 1)) (cond three (need_of (word_at words 0) (word_at words 1) (word_at words 2))
        (cond four (cond run (run_with (word_at words 1) (option_map Some (budget_of (word_at words 2) (word_at words 3))) (bindings_of (drop 4 words))) None) None)) ≡ Some a → IsWithin a.task
    go true three four run h = check_within (word_at words 0) (word_at words 1) a h
    go false true four run h = need_within (word_at words 0) (word_at words 1) (word_at words 2) a h
    go false false false run h = cc
    go false false true false h = cc
    go false false true true h = run_within (word_at words 1) (option_map Some (budget_of (word_at words 2) (word_at words 3))) (bindings_of (drop 4 words)) a (budget_some (word_at words 2) (word_at words 3)) h

plain_within : (words : List (List ℕ)) (a : Asked) → plain_asked words ≡ Some a → IsWithin a.task
plain_within words a e = go (is_word (word_at words 0)) e
  where
    none : (b : Budget) → Some None ≡ Some (Some b) → IsBudgetWithin b
    none b h = cc

    go : (b : Bool) → cond b (run_with (word_at words 0) (Some None) (bindings_of (drop 1 words))) None ≡ Some a → IsWithin a.task
    go true h = run_within (word_at words 0) (Some None) (bindings_of (drop 1 words)) a none h
    go false h = cc

pub asked_within : (p : Program) (words : List (List ℕ)) (a : Asked) → asked_of p words ≡ Some a → IsWithin a.task
asked_within program.FlinkRun words a e = flink_within words a e
asked_within program.PlainRun words a e = plain_within words a e
