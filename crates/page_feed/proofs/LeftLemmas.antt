-- Lemmas on the records that a feed has left.
use Rattle.std.proofs.Common.{◌≡◌, ℕ, ◌+◌, ◌-◌, ◌*◌, ◌≤◌, cond, not, ◌==◌, List, [], ◌∷◌, ◌++◌, length, Option, Some, None, refl, sym, ap, ◌∙◌, subst, arith, append_assoc, append-nil, length-append}
use Rattle.segment_core.specs.Segments.{SegmentView, count_other_size, segment_sum}
use Rattle.segment_core.proofs.Weighing.{segment_sum-ones}
use Rattle.flow_outside.specs.Blocks.{Blocks}
use Rattle.flow_outside.specs.Told.{IfTold}
use Rattle.paged_view.specs.Pages.{used_bytes, all_used_bytes}
use Rattle.paged_view.specs.Reading.{Reading}
use Rattle.spool.specs.Runs.{joined, pages_at}
use Rattle.spool.specs.declared.place.RunReader.{RunReader}
use Rattle.page_feed.specs.Reach.{IsWithinReach, behind, sizes_of}
use Rattle.page_feed.specs.Feeds.{FeedView, HasBlockLeft, HasLeft, IsLeftReadable, IsStarted, lent, most_left, pages_left, pages_to_read, sizes_left, unread}
use Rattle.page_feed.specs.Feeding.{GoesOn, IsKnown, PutsAway}
use Rattle.page_feed.proofs.ReachLemmas.{all_used_bytes-append, sizes-append}

-- What follows of told blocks from one fact, and from two.
pub told_map : (t : Option Blocks) (P Q : Blocks → Type 0) → ((m : Blocks) → P m → Q m) → IfTold t P → IfTold t Q
told_map None P Q f p = tt
told_map (Some m) P Q f p = f m p

pub told_all : (t : Option Blocks) (P : Blocks → Type 0) → ((m : Blocks) → P m) → IfTold t P
told_all None P f = tt
told_all (Some m) P f = f m

pub told_join : (t : Option Blocks) (P Q R : Blocks → Type 0) → ((m : Blocks) → P m → Q m → R m) → IfTold t P → IfTold t Q → IfTold t R
told_join None P Q R f p q = tt
told_join (Some m) P Q R f p q = f m p q

-- The weight of pages of another size.
abbrev pub other_size : ℕ → ℕ → ℕ → ℕ
other_size size id n = cond (not (n == size)) 1 0

pub fit_on : (size : ℕ) (ps qs : List SegmentView) → ((h : ℕ → ℕ → ℕ) → segment_sum h qs ≡ segment_sum h ps) → count_other_size size ps ≡ 0 → count_other_size size qs ≡ 0
fit_on size ps qs same none = same (other_size size) ∙ none

-- As many segments are lent as before.
pub started_on : (a b : FeedView) → ((h : ℕ → ℕ → ℕ) → segment_sum h (lent b) ≡ segment_sum h (lent a)) → b.reach ≡ a.reach → IsStarted a → IsStarted b
started_on a b same reach started =
    omega (arith, same (λ _ _. 1), segment_sum-ones (lent a), segment_sum-ones (lent b), reach, started)

-- The same records are left where the same bytes are.
pub left_on : (m : Blocks) (a b : FeedView) (rows : List (List ℕ)) → ((h : ℕ → ℕ → ℕ) → segment_sum h (lent b) ≡ segment_sum h (lent a))
    → ((size : ℕ) → count_other_size size (lent a) ≡ 0 → IsLeftReadable m size a.run → IsLeftReadable m size b.run)
    → unread m b ≡ unread m a → b.reach ≡ a.reach → sizes_left m b ≡ sizes_left m a → HasLeft m a rows → HasLeft m b rows
left_on m a b rows same readable text reach sizes left = record {
  size = left.size;
  sized = fit_on left.size (lent a) (lent b) same left.sized;
  run = readable left.size left.sized left.run;
  text = text ∙ left.text;
  lengths = left.lengths;
  reach = subst (λ n. IsWithinReach n (sizes_left m b) rows) (sym reach) (subst (λ xs. IsWithinReach a.reach xs rows) (sym sizes) left.reach);
}

-- Nothing is done.
pub goes_nowhere : (t : Option Blocks) (a b : FeedView) → b ≡ a → GoesOn t a b
goes_nowhere t a b same = subst (λ v. GoesOn t a v) (sym same) (record {
  room = refl;
  reach = refl;
  kept = refl;
  open_page = refl;
  weights = λ h. refl;
  less = omega arith;
  rows = told_all t (λ m. (rows : List (List ℕ)) → HasLeft m a rows → HasLeft m a rows) (λ m rows left. left);
  among = told_all t (λ m. (block : ℕ) → HasBlockLeft m a.run block → HasBlockLeft m a.run block) (λ m block has. has);
  readable = told_all t (λ m. (size : ℕ) → count_other_size size (lent a) ≡ 0 → IsLeftReadable m size a.run → IsLeftReadable m size a.run) (λ m size fit run. run);
})

-- One step, and another.
pub goes_join : (t : Option Blocks) (a b c : FeedView) → GoesOn t a b → GoesOn t b c → GoesOn t a c
goes_join t a b c one two = record {
  room = two.room ∙ one.room;
  reach = two.reach ∙ one.reach;
  kept = two.kept ∙ one.kept;
  open_page = two.open_page ∙ one.open_page;
  weights = λ h. two.weights h ∙ one.weights h;
  less = omega (arith, one.less, two.less);
  rows = told_join t (λ m. (rows : List (List ℕ)) → HasLeft m a rows → HasLeft m b rows) (λ m. (rows : List (List ℕ)) → HasLeft m b rows → HasLeft m c rows) (λ m. (rows : List (List ℕ)) → HasLeft m a rows → HasLeft m c rows)
      (λ m first next rows left. next rows (first rows left)) one.rows two.rows;
  among = told_join t (λ m. (block : ℕ) → HasBlockLeft m b.run block → HasBlockLeft m a.run block) (λ m. (block : ℕ) → HasBlockLeft m c.run block → HasBlockLeft m b.run block) (λ m. (block : ℕ) → HasBlockLeft m c.run block → HasBlockLeft m a.run block)
      (λ m first next block has. first block (next block has)) one.among two.among;
  readable = told_join t (λ m. (size : ℕ) → count_other_size size (lent a) ≡ 0 → IsLeftReadable m size a.run → IsLeftReadable m size b.run) (λ m. (size : ℕ) → count_other_size size (lent b) ≡ 0 → IsLeftReadable m size b.run → IsLeftReadable m size c.run) (λ m. (size : ℕ) → count_other_size size (lent a) ≡ 0 → IsLeftReadable m size a.run → IsLeftReadable m size c.run)
      (λ m first next size fit run. next size (fit_on size (lent a) (lent b) one.weights fit) (first size fit run)) one.readable two.readable;
}

-- Records that were known to be left still are.
pub known_on : (t : Option Blocks) (a b : FeedView) → GoesOn t a b → IsKnown t a → IsKnown t b
known_on t a b goes known =
    told_join t (λ m. (rows : List (List ℕ)) → HasLeft m a rows → HasLeft m b rows) (λ m. (rows : List (List ℕ)) × HasLeft m a rows) (λ m. (rows : List (List ℕ)) × HasLeft m b rows)
    (λ m on is. (is.0, on is.0 is.1)) goes.rows known

-- Pages were put away.
pub away_nowhere : (a b : FeedView) → b ≡ a → PutsAway a b
away_nowhere a b same = subst (λ v. PutsAway a v) (sym same) (record {
  room = refl;
  reach = refl;
  text = refl;
  ahead = refl;
  run = refl;
  under_way = refl;
  sizes = λ m. refl;
  kept = refl;
  open_page = refl;
  weights = λ h. refl;
})

pub away_join : (a b c : FeedView) → PutsAway a b → PutsAway b c → PutsAway a c
away_join a b c one two = record {
  room = two.room ∙ one.room;
  reach = two.reach ∙ one.reach;
  text = two.text ∙ one.text;
  ahead = two.ahead ∙ one.ahead;
  run = two.run ∙ one.run;
  under_way = two.under_way ∙ one.under_way;
  sizes = λ m. two.sizes m ∙ one.sizes m;
  kept = two.kept ∙ one.kept;
  open_page = two.open_page ∙ one.open_page;
  weights = λ h. two.weights h ∙ one.weights h;
}

-- the bytes that weren't read yet, by the parts of a feed
abbrev unread_of : Blocks → List ℕ → List SegmentView → Option RunReader → List SegmentView → List ℕ
unread_of m text ahead run open_page =
    text ++ (all_used_bytes ahead ++ (joined (pages_left m run) ++ all_used_bytes open_page))

pub unread_same : (m : Blocks) (a b : FeedView) → b.reader.text ≡ a.reader.text → b.ahead ≡ a.ahead → b.run ≡ a.run → b.open_page ≡ a.open_page → unread m b ≡ unread m a
unread_same m a b text ahead run open_page =
    ap (λ xs. unread_of m xs b.ahead b.run b.open_page) text
    ∙ ap (λ ps. unread_of m a.reader.text ps b.run b.open_page) ahead
    ∙ ap (λ r. unread_of m a.reader.text a.ahead r b.open_page) run
    ∙ ap (λ ps. unread_of m a.reader.text a.ahead a.run ps) open_page

pub most_same : (a b : FeedView) → b.reader.text ≡ a.reader.text → b.ahead ≡ a.ahead → b.run ≡ a.run → b.open_page ≡ a.open_page → most_left b ≡ most_left a
most_same a b text ahead run open_page =
    ap (λ xs. length xs + (length (all_used_bytes b.ahead) + (32752 * pages_to_read b.run + length (all_used_bytes b.open_page)))) text
    ∙ ap (λ ps. length a.reader.text + (length (all_used_bytes ps) + (32752 * pages_to_read b.run + length (all_used_bytes b.open_page)))) ahead
    ∙ ap (λ r. length a.reader.text + (length (all_used_bytes a.ahead) + (32752 * pages_to_read r + length (all_used_bytes b.open_page)))) run
    ∙ ap (λ ps. length a.reader.text + (length (all_used_bytes a.ahead) + (32752 * pages_to_read a.run + length (all_used_bytes ps)))) open_page

pub goes_away : (t : Option Blocks) (a b : FeedView) → PutsAway a b → GoesOn t a b
goes_away t a b away = record {
  room = away.room;
  reach = away.reach;
  kept = away.kept;
  open_page = away.open_page;
  weights = away.weights;
  less = omega (arith, most_same a b away.text away.ahead away.run away.under_way);
  rows = told_all t (λ m. (rows : List (List ℕ)) → HasLeft m a rows → HasLeft m b rows) (λ m rows left.
      left_on m a b rows away.weights (λ size fit run. subst (IsLeftReadable m size) (sym away.run) run) (unread_same m a b away.text away.ahead away.run away.under_way) away.reach (away.sizes m) left);
  among = told_all t (λ m. (block : ℕ) → HasBlockLeft m b.run block → HasBlockLeft m a.run block) (λ m block has. subst (λ r. HasBlockLeft m r block) away.run has);
  readable = told_all t (λ m. (size : ℕ) → count_other_size size (lent a) ≡ 0 → IsLeftReadable m size a.run → IsLeftReadable m size b.run) (λ m size fit run. subst (IsLeftReadable m size) (sym away.run) run);
}

-- No page of the run is left.
pub none_left : (m : Blocks) (run : Option RunReader) → pages_to_read run ≡ 0 → pages_left m run ≡ []
none_left m None none = refl
none_left m (Some run) none = ap (pages_at m run.at) none

-- The sizes that are left where the reader was given a page.
pub sizes_given : (ps : List SegmentView) (p : SegmentView) (text : List ℕ) (r : Reading) (xs : List ℕ) → r.pages ≡ ps ++ p ∷ [] → r.text ≡ text ++ used_bytes p → length text ≤ length (all_used_bytes ps)
    → behind (length (all_used_bytes r.pages) - length r.text) (sizes_of r.pages ++ xs) ≡ behind (length (all_used_bytes ps) - length text) (sizes_of ps ++ (length (used_bytes p) ∷ xs))
sizes_given ps p text r xs pages more within =
    let long : length (all_used_bytes r.pages) ≡ length (all_used_bytes ps) + length (used_bytes p) = ap (λ qs. length (all_used_bytes qs)) pages ∙ ap length (all_used_bytes-append ps (p ∷ []) ∙ ap (λ ys. all_used_bytes ps ++ ys) (append-nil (used_bytes p))) ∙ length-append (all_used_bytes ps) (used_bytes p) in
    let longer : length r.text ≡ length text + length (used_bytes p) = ap length more ∙ length-append text (used_bytes p) in
    let count : length (all_used_bytes r.pages) - length r.text ≡ length (all_used_bytes ps) - length text = omega (arith, long, longer, within) in
    let sizes : sizes_of r.pages ++ xs ≡ sizes_of ps ++ (length (used_bytes p) ∷ xs) = ap (λ qs. sizes_of qs ++ xs) pages ∙ ap (λ ys. ys ++ xs) (sizes-append ps (p ∷ [])) ∙ append_assoc (sizes_of ps) (length (used_bytes p) ∷ []) xs in
    ap (λ n. behind n (sizes_of r.pages ++ xs)) count ∙ ap (behind (length (all_used_bytes ps) - length text)) sizes
