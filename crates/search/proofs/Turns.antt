-- The calls: each answer leaves less room, and on a file whose chain obeys the link rule none is Damaged. Assumes nothing.
use Rattle.std.specs.Prelude.{Result, Ok, Err}
use mathlib.Core.Path.{◌≡◌, refl, ◌∙◌, ap, subst}
use mathlib.Core.Bool.{Bool, true, false, cond, ◌||◌, not}
use mathlib.Core.List.{List, ◌∷◌}
use Prim.Native.Nat.{ℕ, ◌+◌, ◌≤◌, ◌<◌}
use native.Mathlib.Omega.{arith}
use borrow.Author.Tests.{le-leb}
use lib.Dec.{ltb}
use lib.ListN.{length}
use Rattle.seq.specs.Ids.{none}
use Rattle.seq.specs.Seq.{limit}
use Rattle.page.specs.Page.{Read}
use Rattle.chain.specs.declared.PagePointer.{PagePointer}
use Rattle.chain.specs.Links.{links_after}
use Rattle.chain.specs.Files.{last_of}
use Rattle.chain.specs.Steps.{read_at}
use Rattle.chain.proofs.Links.{links_follow}
use Rattle.state.specs.declared.types.FileRecord.{FileRecord}
use Rattle.state.specs.declared.types.Search.{Search}
use Rattle.state.specs.declared.types.State.{State}
use Rattle.state.specs.declared.types.Refusal.{Refusal}
use Rattle.state.specs.declared.types.Refusal.TheVariants.{BadSize, NotMounted, Busy, BadFile, Damaged, NoSearch}
use Rattle.state.specs.Values.{file_at, is_empty, in_shape, no_search, with_search}
use Rattle.state.specs.Checks.{search_ok, is_mounted, wrong_size, checks}
use Rattle.state.specs.Refusals.{on_done, Done, fine}
use Rattle.state.specs.World.{World, Outcome, kept}
use Rattle.state.proofs.Laws.{shape_says}
use Rattle.search.specs.declared.Answer.{Answer}
use Rattle.search.specs.declared.Answer.TheVariants.{Offer as Offers, End}
use Rattle.search.specs.declared.hunt.Offer.{Offer}
use Rattle.search.specs.declared.search.Stand.{Stand}
use Rattle.search.specs.Hunt.{Sought, offered, ended, broken, hunt}
use Rattle.search.specs.Search.{offering, answering, sought_by, sought, start_of, start_in, start, left_of, right_of, answered, left, right}
use Rattle.search.specs.Right.{Offering, Standing, room, Place, Sane, FileOn, Held}
use Rattle.search.proofs.Offers.{hunt_offers, offer_stands, left_falls, right_falls}
use Rattle.search.proofs.Sound.{hunt_sane}

-- ---- the checks that all calls share say nothing of damage

barred : (image map : ℕ) (s : State) (busy : Bool) (file : ℕ) → checks image map s busy file ≡ Err Damaged → ⊥
unfolding checks
barred image map s busy file = go (wrong_size image map (is_mounted s) s.pages) (is_mounted s) busy (ltb 7 file)
  where
    go : (a m b f : Bool) → cond a (Err BadSize) (cond m (cond b (Err Busy) (cond f (Err BadFile) fine)) (Err NotMounted)) ≡ Err Damaged → ⊥
    go true m b f e = let z : ◌≡◌ {A = ℕ} 0 1 = cc in omega arith
    go false false b f e = let z : ◌≡◌ {A = ℕ} 0 1 = cc in omega arith
    go false true true f e = let z : ◌≡◌ {A = ℕ} 0 1 = cc in omega arith
    go false true false true e = let z : ◌≡◌ {A = ℕ} 0 1 = cc in omega arith
    go false true false false e = let z : ◌≡◌ {A = ℕ} 0 1 = cc in omega arith

-- ---- by cases: a refusal of the checks, no position on offer, or the hunt

module _ (w : World) (P : Outcome (Result Answer Refusal) → Type 0) (refused : (why : Refusal) → (why ≡ Damaged → ⊥) → P (kept w (Err why))) where
  by_checks : (i : ℕ) (go : Outcome (Result Answer Refusal)) → P go
      → P (on_done (checks (length w.image) (length w.map) w.state w.state.transaction i) (λ why. kept w (Err why)) go)
  by_checks i out p = go (checks (length w.image) (length w.map) w.state w.state.transaction i) refl
    where
      go : (d : Done) → checks (length w.image) (length w.map) w.state w.state.transaction i ≡ d → P (on_done d (λ why. kept w (Err why)) out)
      go (Err why) e = refused why (λ u. barred _ _ _ _ _ (e ∙ ap Err u))
      go (Ok u) e = p

  by_answered : (f : Search → Stand) → P (sought w (f w.state.search)) → P (answered w f)
  unfolding answered
  by_answered f p = by_checks 0 _ (go w.state.search.active)
    where
      go : (a : Bool) → P (cond a (sought w (f w.state.search)) (kept w (Err NoSearch)))
      go true = p
      go false = refused NoSearch (λ e. let z : ◌≡◌ {A = ℕ} 0 1 = cc in omega arith)

  by_start : (i : ℕ) → P (answering w (Ok (End (file_at w.table i).first_seq)) no_search)
      → (in_shape w.state.page_count (file_at w.table i) ≡ false → P (kept w (Err Damaged)))
      → P (sought w (start_of i (file_at w.table i))) → P (start w i)
  unfolding start start_in
  by_start i q r p = by_checks i _ (go (is_empty (file_at w.table i)) (in_shape w.state.page_count (file_at w.table i)) refl)
    where
      go : (a b : Bool) → in_shape w.state.page_count (file_at w.table i) ≡ b
          → P (cond a (answering w (Ok (End (file_at w.table i).first_seq)) no_search) (cond b (sought w (start_of i (file_at w.table i))) (kept w (Err Damaged))))
      go true b e = q
      go false true e = p
      go false false e = r e

-- ---- what a hunt from a stand comes to

abbrev Undamaged : Outcome (Result Answer Refusal) → Type 0
Undamaged o = o.answer ≡ Err Damaged → ⊥

-- where a position is offered, the search is such
abbrev Leaves : (ℕ → Search → Type 0) → Outcome (Result Answer Refusal) → Type 0
Leaves Q o = (m : ℕ) → o.answer ≡ Ok (Offers m) → Q m o.state.search

refused_leaves : (w : World) (Q : ℕ → Search → Type 0) (why : Refusal) → Leaves Q (kept w (Err why))
refused_leaves w Q why m e = let z : ◌≡◌ {A = ℕ} 0 1 = cc in absurd (omega arith)

ended_leaves : (w : World) (Q : ℕ → Search → Type 0) (n : ℕ) → Leaves Q (answering w (Ok (End n)) no_search)
ended_leaves w Q n m e = let z : ◌≡◌ {A = ℕ} 0 1 = cc in absurd (omega arith)

ended_undamaged : (w : World) (n : ℕ) → Undamaged (answering w (Ok (End n)) no_search)
ended_undamaged w n e = let z : ◌≡◌ {A = ℕ} 0 1 = cc in omega arith

refused_undamaged : (w : World) (why : Refusal) → (why ≡ Damaged → ⊥) → Undamaged (kept w (Err why))
refused_undamaged w why n e = n (cc)

-- a hunt from a stand offers
abbrev Hunts : World → Stand → ℕ → Offer → Type 0
Hunts w s l o = hunt w.state.page_count (read_at w.image) s.left s.right s.links ≡ offered l o

module _ (w : World) (s : Stand) where
  sought_leaves : (Q : ℕ → Search → Type 0) → ((l : ℕ) (o : Offer) → Hunts w s l o → Q o.mid (offering s l o)) → Leaves Q (sought w s)
  unfolding sought with_search
  sought_leaves Q f = go (hunt w.state.page_count (read_at w.image) s.left s.right s.links) refl
    where
      go : (x : Sought) → hunt w.state.page_count (read_at w.image) s.left s.right s.links ≡ x → Leaves Q (sought_by w s x)
      go (offered l o) e m u = let v : o.mid ≡ m = cc in subst (λ (k : ℕ). Q k (offering s l o)) v (f l o e)
      go ended e m u = let z : ◌≡◌ {A = ℕ} 0 1 = cc in absurd (omega arith)
      go broken e m u = let z : ◌≡◌ {A = ℕ} 0 1 = cc in absurd (omega arith)

  sought_undamaged : (hunt w.state.page_count (read_at w.image) s.left s.right s.links ≡ broken → ⊥) → Undamaged (sought w s)
  unfolding sought
  sought_undamaged n = go (hunt w.state.page_count (read_at w.image) s.left s.right s.links) refl
    where
      go : (x : Sought) → hunt w.state.page_count (read_at w.image) s.left s.right s.links ≡ x → Undamaged (sought_by w s x)
      go (offered l o) e u = let z : ◌≡◌ {A = ℕ} 0 1 = cc in omega arith
      go ended e u = let z : ◌≡◌ {A = ℕ} 0 1 = cc in omega arith
      go broken e u = n e

-- ---- the search ends, on any image

-- what holds of every offer holds of the search that a call leaves where it offers
module _ (w : World) (Q : ℕ → Search → Type 0) where
  start_leaves : (i : ℕ) → ((l : ℕ) (o : Offer) → Hunts w (start_of i (file_at w.table i)) l o → Q o.mid (offering (start_of i (file_at w.table i)) l o)) → Leaves Q (start w i)
  start_leaves i f =
      by_start w (Leaves Q) (λ why n. refused_leaves w Q why) i (ended_leaves w Q _) (λ u. refused_leaves w Q Damaged)
      (sought_leaves w (start_of i (file_at w.table i)) Q f)

  answer_leaves : (f : Search → Stand) → ((l : ℕ) (o : Offer) → Hunts w (f w.state.search) l o → Q o.mid (offering (f w.state.search) l o)) → Leaves Q (answered w f)
  answer_leaves f g = by_answered w (Leaves Q) (λ why n. refused_leaves w Q why) f (sought_leaves w (f w.state.search) Q g)

-- ---- what a call offers, on any image

module _ (w : World) where
  abbrev Names : ℕ → Search → Type 0
  Names m q = Offering w.state.page_count (read_at w.image) m q

  offer_names : (s : Stand) (l : ℕ) (o : Offer) → Hunts w s l o → Names o.mid (offering s l o)
  offer_names s l o h = (refl, (hunt_offers w.state.page_count (read_at w.image) s.right s.links l o s.left h).named)

  -- every start that is offered is a boundary that a readable page names, above left and below right
  pub start_names : (i m : ℕ) → (start w i).answer ≡ Ok (Offers m) → Names m (start w i).state.search
  start_names i = start_leaves w Names i (offer_names (start_of i (file_at w.table i)))

  pub left_names : (m : ℕ) → (left w).answer ≡ Ok (Offers m) → Names m (left w).state.search
  left_names = answer_leaves w Names left_of (offer_names (left_of w.state.search))

  pub right_names : (m : ℕ) → (right w).answer ≡ Ok (Offers m) → Names m (right w).state.search
  right_names = answer_leaves w Names right_of (offer_names (right_of w.state.search))

  -- ---- the search ends, on any image

  stands : (s : Stand) (l : ℕ) (o : Offer) → Hunts w s l o → Standing (offering s l o)
  stands s l o h = offer_stands w.state.page_count (read_at w.image) l o s h

  -- a start that offers leaves a search that stands between left and right
  pub start_stands : (i m : ℕ) → (start w i).answer ≡ Ok (Offers m) → Standing (start w i).state.search
  start_stands i = start_leaves w (λ m q. Standing q) i (stands (start_of i (file_at w.table i)))

  module _ (t : Standing w.state.search) where
    abbrev Less : ℕ → Search → Type 0
    Less m q = Standing q × (room q < room w.state.search)

    -- so does an answer that offers again, and there is less room
    pub left_less : (m : ℕ) → (left w).answer ≡ Ok (Offers m) → Less m (left w).state.search
    left_less = answer_leaves w Less left_of (λ l o h. (
      stands (left_of w.state.search) l o h,
      left_falls w.state.page_count (read_at w.image) l o w.state.search t h,
    ))

    pub right_less : (m : ℕ) → (right w).answer ≡ Ok (Offers m) → Less m (right w).state.search
    right_less = answer_leaves w Less right_of (λ l o h. (
      stands (right_of w.state.search) l o h,
      right_falls w.state.page_count (read_at w.image) l o w.state.search t h,
    ))

-- ---- never Damaged on a file

module _ (count : ℕ) (read : ℕ → Read) (first : ℕ) where
  place_sane : (at : ℕ) (links : List ℕ) (l : ℕ) → Place count 1 read first at links → first ≤ l → Sane count 1 read first l (hunt count read l at links)
  place_sane at links l p lo = rw (p.starts, p.same) (hunt_sane count 1 (omega arith) read first p.page p.older p.on l lo)

  module _ (s : Stand) (p : Place count 1 read first s.right s.links) (lo : first ≤ s.left) where
    never : hunt count read s.left s.right s.links ≡ broken → ⊥
    never e = subst (Sane count 1 read first s.left) e (place_sane s.right s.links s.left p lo)

    offer_held : (l : ℕ) (o : Offer) → hunt count read s.left s.right s.links ≡ offered l o → Held count read first (offering s l o)
    offer_held l o e =
        let g = subst (Sane count 1 read first s.left) e (place_sane s.right s.links s.left p lo) in
        record { standing = offer_stands count read l o s e; left = omega (arith, g.0); right = p; low = g.1 }

-- the page that would come next, behind the last one
abbrev next : FileRecord → PagePointer
next f = record { page_id = 0; header = record { seq = f.last_seq; skiplist = links_after (last_of f) f.last_seq; record_boundary = none; length = 0 } }

start_place : (count : ℕ) (read : ℕ → Read) (f : FileRecord) (l : List PagePointer) → FileOn count read f l
    → Place count 1 read f.first_seq f.last_seq (links_after (last_of f) f.last_seq)
start_place count read f l h =
    let s = shape_says count f h.shape in
    let k = links_follow count 1 (last_of f) (next f) s.inside h.page s.low s.low s.end h.nine refl in record {
      page = next f;
      older = last_of f ∷ l;
      on = record { linked = (k, h.chain.linked); stand = (h.stands, h.chain.stand); bounded = h.bounded; reaches = h.reaches };
      starts = refl;
      same = refl;
    }

module _ (w : World) (i : ℕ) (l : List PagePointer) (h : FileOn w.state.page_count (read_at w.image) (file_at w.table i) l) where
  abbrev From : Stand
  From = start_of i (file_at w.table i)

  abbrev First : ℕ
  First = (file_at w.table i).first_seq

  -- a start on such a file is never Damaged
  pub start_undamaged : (start w i).answer ≡ Err Damaged → ⊥
  start_undamaged =
      by_start w Undamaged (refused_undamaged w) i (ended_undamaged w First) (λ u. let z : ◌≡◌ {A = ℕ} 0 1 = cc h.shape in absurd (omega arith))
      (sought_undamaged w From (never w.state.page_count (read_at w.image) First From (start_place _ _ _ l h) (omega arith)))

  -- and what it offers is held
  pub start_held : (m : ℕ) → (start w i).answer ≡ Ok (Offers m) → Held w.state.page_count (read_at w.image) First (start w i).state.search
  start_held =
      start_leaves w (λ m q. Held w.state.page_count (read_at w.image) First q) i
      (offer_held w.state.page_count (read_at w.image) First From (start_place _ _ _ l h) (omega arith))

module _ (w : World) (first : ℕ) (h : Held w.state.page_count (read_at w.image) first w.state.search) where
  abbrev Keeps : ℕ → Search → Type 0
  Keeps m q = Held w.state.page_count (read_at w.image) first q

  past : first ≤ w.state.search.high + 1
  past = omega (arith, h.left, h.standing.after, h.standing.starts, h.standing.reaches)

  -- an answer to a held search is never Damaged, and leaves it held
  pub left_undamaged : (left w).answer ≡ Err Damaged → ⊥
  left_undamaged =
      by_answered w Undamaged (refused_undamaged w) left_of
      (sought_undamaged w (left_of w.state.search) (never w.state.page_count (read_at w.image) first (left_of w.state.search) h.low h.left))

  pub right_undamaged : (right w).answer ≡ Err Damaged → ⊥
  right_undamaged =
      by_answered w Undamaged (refused_undamaged w) right_of
      (sought_undamaged w (right_of w.state.search) (never w.state.page_count (read_at w.image) first (right_of w.state.search) h.right past))

  pub left_held : (m : ℕ) → (left w).answer ≡ Ok (Offers m) → Keeps m (left w).state.search
  left_held = answer_leaves w Keeps left_of (offer_held w.state.page_count (read_at w.image) first (left_of w.state.search) h.low h.left)

  pub right_held : (m : ℕ) → (right w).answer ≡ Ok (Offers m) → Keeps m (right w).state.search
  right_held = answer_leaves w Keeps right_of (offer_held w.state.page_count (read_at w.image) first (right_of w.state.search) h.right past)

-- ---- the state after it counts as mounted

-- the numbers of a search that stands are in range where right and result are
pub standing_fits : (q : Search) → Standing q → q.file ≤ 7 → q.right ≤ limit → q.result ≤ limit → search_ok q ≡ true
unfolding search_ok
standing_fits q t f r e =
    rw (
      le-leb q.file 7 f,
      le-leb q.left limit (omega (arith, t.after, t.starts, t.reaches, t.before)),
      le-leb q.right limit r,
      le-leb q.result limit e,
      le-leb q.low limit (omega (arith, t.starts, t.reaches, t.before)),
      le-leb q.mid limit (omega (arith, t.reaches, t.before)),
      le-leb q.high limit (omega (arith, t.before)),
    ) (go q.active)
  where
    go : (a : Bool) → (not a || true) ≡ true
    go true = refl
    go false = refl
