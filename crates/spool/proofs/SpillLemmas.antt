-- What spilling a page does to a disk.
use Rattle.std.proofs.Common.{◌≡◌, ◌≢◌, inl, inr, ℕ, ◌+◌, List, [], ◌∷◌, ◌++◌, Option, Some, None, refl, sym, ap, ◌∙◌, subst}
use Rattle.flow_outside.specs.Blocks.{Blocks, BothTold, Becomes, IsGiven}
use Rattle.flow_outside.specs.Told.{IfTold}
use Rattle.spool.specs.Runs.{pages_at, HasBlock, IsWritten}
use Rattle.spool.specs.Changes.{IsAppended, IsKept, IsPushed, LeavesOpen}
use Rattle.spool.specs.declared.writer.RunWriter.{RunWriter}
use Rattle.spool.proofs.PushLemmas.{push_leaves, open_leaves}
use Rattle.spool.specs.Spilling.{IsLonger, IsUnchanged}
use Rattle.spool.proofs.GrowthLemmas.{begun_owns, open_owns, push_owns, withdrawn_owns}

-- Two changes of a disk, one after the other.
pub told_join : (t u v : Option Blocks) (P Q R : Blocks → Blocks → Type 0) → ((k m n : Blocks) → P k m → Q m n → R k n) → BothTold t u P → BothTold u v Q → BothTold t v R
told_join None None None P Q R f p q = tt
told_join None None (Some n) P Q R f p q = q
told_join None (Some m) v P Q R f p q = absurd p
told_join (Some k) None v P Q R f p q = absurd p
told_join (Some k) (Some m) None P Q R f p q = q
told_join (Some k) (Some m) (Some n) P Q R f p q = f k m n p q

-- What follows from a change of a disk, and from what was true before it.
pub told_with : (t u : Option Blocks) (A : Blocks → Type 0) (P R : Blocks → Blocks → Type 0) → ((m n : Blocks) → A m → P m n → R m n) → IfTold t A → BothTold t u P → BothTold t u R
told_with None None A P R f a p = tt
told_with None (Some n) A P R f a p = p
told_with (Some m) None A P R f a p = p
told_with (Some m) (Some n) A P R f a p = f m n a p

-- Two facts of one change.
pub told_both : (t u : Option Blocks) (P Q : Blocks → Blocks → Type 0) → BothTold t u P → BothTold t u Q → BothTold t u (λ m n. P m n × Q m n)
told_both None None P Q p q = tt
told_both None (Some n) P Q p q = p
told_both (Some m) None P Q p q = p
told_both (Some m) (Some n) P Q p q = (p, q)

-- A page was pushed behind those of a writer.
longer : (size : ℕ) (before after : RunWriter) (page : List ℕ) (m n : Blocks) → IsWritten m size before
    → after.first ≡ before.first → after.pages ≡ before.pages + 1 → IsAppended before.end after.end page m n → IsPushed size before after page m n
    → IsLonger size (Some before) (Some after) page m n
longer size before after page m n written first pages change more = record {
  stands = more.written;
  pages = more.pages;
  others = λ k live other. push_leaves m n size before after page written change more k live other;
  owns = push_owns m n size before after page written first pages change more;
}

pub longer_told : (t u : Option Blocks) (size : ℕ) (before after : RunWriter) (page : List ℕ)
    → (after.first ≡ before.first) × (after.pages ≡ before.pages + 1)
    → IfTold t (λ m. IsWritten m size before)
    → BothTold t u (IsAppended before.end after.end page)
    → BothTold t u (λ old new. IsWritten old size before → IsPushed size before after page old new)
    → BothTold t u (IsLonger size (Some before) (Some after) page)
longer_told t u size before after page counted written change more =
    told_with t u (λ m. IsWritten m size before)
    (λ old new. IsAppended before.end after.end page old new × (IsWritten old size before → IsPushed size before after page old new))
    (IsLonger size (Some before) (Some after) page)
    (λ m n w p. longer size before after page m n w counted.0 counted.1 p.0 (p.1 w))
    written (told_both t u _ _ change more)

-- A page wasn't pushed: the writer's run is what it was.
unchanged : (size : ℕ) (writer : RunWriter) (m n : Blocks) → IsWritten m size writer
    → LeavesOpen writer.end m n → IsKept size writer m n
    → IsUnchanged size (Some writer) (Some writer) m n
unchanged size writer m n written change kept = record {
  stands = kept.written;
  pages = kept.pages;
  others = λ k live other. open_leaves m n size writer written change k other;
  owns = open_owns m n size writer written change kept;
}

pub unchanged_told : (t u : Option Blocks) (size : ℕ) (before after : RunWriter)
    → IfTold t (λ m. IsWritten m size before)
    → after ≡ before
    → BothTold t u (LeavesOpen before.end)
    → BothTold t u (λ old new. (s : ℕ) → IsWritten old s before → IsKept s before old new)
    → BothTold t u (IsUnchanged size (Some before) (Some after))
unchanged_told t u size before after written same change kept =
    subst (λ w. BothTold t u (IsUnchanged size (Some before) (Some w))) (sym same)
    (told_with t u (λ m. IsWritten m size before)
    (λ old new. LeavesOpen before.end old new × ((s : ℕ) → IsWritten old s before → IsKept s before old new))
    (IsUnchanged size (Some before) (Some before))
    (λ m n w p. unchanged size before m n w p.0 (p.1 size w))
    written (told_both t u _ _ change kept))

-- A run was begun with a page.
begun : (size : ℕ) (writer after : RunWriter) (page : List ℕ) (k m n : Blocks) → writer.pages ≡ 0 → writer.end ≡ writer.first
    → after.first ≡ writer.first → after.pages ≡ writer.pages + 1
    → IsGiven writer.first k m → IsWritten m size writer
    → IsAppended writer.end after.end page m n → IsPushed size writer after page m n
    → IsLonger size None (Some after) page k n
begun size writer after page k m n none end first pages given written change more =
    let none_yet : pages_at m writer.first writer.pages ≡ [] = ap (pages_at m writer.first) none in
    record {
      stands = more.written;
      pages = more.pages ∙ ap (λ ps. ps ++ page ∷ []) none_yet;
      others = λ b live other.
          let apart : b ≢ writer.first = λ is. live (ap k is ∙ given.fresh) in
          let same : m b ≡ k b = given.becomes.others b apart in
          let left = push_leaves m n size writer after page written change more b (λ gone. live (sym same ∙ gone)) (λ h. apart (subst (λ c. HasBlock m writer.first c b) none h)) in (
            left.0 ∙ same,
            left.1,
          );
      owns = begun_owns k m n size writer after page none given (push_owns m n size writer after page written first pages change more);
    }

pub begun_told : (t u v : Option Blocks) (size : ℕ) (writer after : RunWriter) (page : List ℕ)
    → writer.pages ≡ 0 → writer.end ≡ writer.first
    → (after.first ≡ writer.first) × (after.pages ≡ writer.pages + 1)
    → BothTold t u (IsGiven writer.first)
    → IfTold u (λ m. (s : ℕ) → IsWritten m s writer)
    → BothTold u v (IsAppended writer.end after.end page)
    → BothTold u v (λ old new. IsWritten old size writer → IsPushed size writer after page old new)
    → BothTold t v (IsLonger size None (Some after) page)
begun_told t u v size writer after page none end counted given written change more =
    told_join t u v (IsGiven writer.first)
    (λ m n. IsWritten m size writer × (IsAppended writer.end after.end page m n × IsPushed size writer after page m n))
    (IsLonger size None (Some after) page)
    (λ k m n g p. begun size writer after page k m n none end counted.0 counted.1 g p.0 p.1.0 p.1.1)
    given
    (told_with u v (λ m. (s : ℕ) → IsWritten m s writer)
    (λ old new. IsAppended writer.end after.end page old new × (IsWritten old size writer → IsPushed size writer after page old new))
    (λ m n. IsWritten m size writer × (IsAppended writer.end after.end page m n × IsPushed size writer after page m n))
    (λ m n w p. (w size, (p.0, p.1 (w size))))
    written (told_both u v _ _ change more))

-- A run was begun and its only block freed again.
withdrawn : (size first end : ℕ) (k m n o : Blocks) → end ≡ first → IsGiven first k m → LeavesOpen end m n → Becomes first None n o → IsUnchanged size None None k o
withdrawn size first end k m n o same given change freed = record {
  stands = tt;
  pages = refl;
  others = λ b live other.
      let apart : b ≢ first = λ is. live (ap k is ∙ given.fresh) in (
        freed.others b apart ∙ change.others b (λ is. apart (is ∙ same)) ∙ given.becomes.others b apart,
        (λ h. h),
      );
  owns = withdrawn_owns k m n o first end same given change freed;
}

pub withdrawn_told : (t u v w : Option Blocks) (size first end : ℕ) → end ≡ first
    → BothTold t u (IsGiven first) → BothTold u v (LeavesOpen end) → BothTold v w (Becomes first None)
    → BothTold t w (IsUnchanged size None None)
withdrawn_told t u v w size first end same given change freed =
    told_join t u w (IsGiven first) (λ m o. (n : Blocks) × (LeavesOpen end m n × Becomes first None n o)) (IsUnchanged size None None)
    (λ k m o g p. withdrawn size first end k m p.0 o same g p.1.0 p.1.1)
    given
    (told_join u v w (LeavesOpen end) (Becomes first None) (λ m o. (n : Blocks) × (LeavesOpen end m n × Becomes first None n o))
    (λ m n o c f. (n, (c, f)))
    change freed)

-- No pages are unchanged where nothing changed.
pub nothing_told : (t u : Option Blocks) (size : ℕ) → u ≡ t → BothTold t u (IsUnchanged size None None)
nothing_told None None size same = tt
nothing_told None (Some n) size same = cc
nothing_told (Some m) None size same = cc
nothing_told (Some m) (Some n) size same = record {
  stands = tt;
  pages = refl;
  others = λ b live other. (ap (λ (o : Option Blocks). elim o [ None ↦ m b | Some blocks ↦ blocks b ]) same, (λ h. h));
  owns = λ b state. elim state [
    | inl none ↦ inl (ap (λ (o : Option Blocks). elim o [ None ↦ m b | Some blocks ↦ blocks b ]) same ∙ none)
    | inr had ↦ absurd had
  ];
}
