-- What the exits of the code's steps come to, over plain values. Assumes nothing.
use Rattle.std.specs.Prelude.{Option, Some, None}
use Rattle.seq.specs.declared.ids.PageID.{PageID}
use Rattle.std.proofs.lemmas.Option.{same_Some}
use mathlib.Core.Path.{◌≡◌, refl, sym, ◌∙◌, ap, subst}
use mathlib.Core.Bool.{Bool, true, false, cond}
use mathlib.Core.Logic.{◌⊎◌, inl, inr}
use Prim.Native.Nat.{ℕ, suc, ◌+◌, ◌≤◌, ◌<◌}
use native.Mathlib.Nat.{add-zero, lt_of_not-le}
use native.Mathlib.Decide.{dec_le}
use native.Mathlib.Omega.{arith}
use borrow.Author.Tests.{le-ltb, lt-ltb, eqb-true, eqb-false}
use lib.Dec.{eqb, ltb}
use lib.ListN.{length}
use Rattle.seq.specs.Ids.{none, page_of, option_of}
use Rattle.seq.specs.Seq.{index, level}
use Rattle.seq.proofs.Laws.{level_below}
use Rattle.page.specs.Page.{Read, unreadable, readable, gives, HeadedLaws}
use Rattle.page.proofs.Headers.{given_read, given_none}
use Rattle.page.specs.declared.DataHeader.{DataHeader}
use Rattle.chain.specs.declared.PagePointer.{PagePointer}
use Rattle.chain.specs.declared.Step.{Step}
use Rattle.chain.specs.declared.Step.TheVariants.{Stays, Reaches, Breaks}
use Rattle.chain.specs.declared.Found.{Found}
use Rattle.chain.specs.Links.{start, link}
use Rattle.chain.specs.Steps.{lost, via, is_page, page_in, towards, Rule, seek_rule, back_rule, Stepped, stays, reaches, breaks, entered, stepped, lower_of, lower, step, at, damaged, Trace, stop, through, trace}
use Rattle.chain.specs.Seek.{told, located_by, located}
use Rattle.chain.proofs.Rules.{seek_asks, back_asks, seek_here, seek_on, back_here, back_none, back_on}

-- ---- reading a lower page

-- what a test of a raw id shows
module _ (o : Option PageID) {x j : ℕ} (e : o ≡ option_of x) (r : x ≡ j) where
  abbrev Shown : Option PageID → Type 0
  Shown (Some page) = (page.raw ≡ j) × (j ≡ none → ⊥)
  Shown None = j ≡ none

  pub shown : (s : Option PageID) → o ≡ s → Shown s
  shown s q = subst Shown (sym (rw r at e) ∙ q) (by (eqb j none) refl)
    where
      by : (b : Bool) → eqb j none ≡ b → Shown (cond b None (Some (page_of j)))
      by true t = eqb-true j none t
      by false t = (refl, eqb-false j none t)

-- what the page of an id shows
module _ (count j : ℕ) where
  pub in_page : (x : ℕ) → Some x ≡ page_in count j → (x ≡ j) × (is_page count j ≡ true)
  in_page x = by (is_page count j)
    where
      by : (b : Bool) → Some x ≡ cond b (Some j) None → (x ≡ j) × (b ≡ true)
      by true e = (same_Some _ _ e, refl)
      by false e = cc

  pub in_none : None ≡ page_in count j → is_page count j ≡ false
  in_none = by (is_page count j)
    where
      by : (b : Bool) → None ≡ cond b (Some j) None → b ≡ false
      by true e = cc
      by false e = refl

module _ (count : ℕ) (read : ℕ → Read) (s j : ℕ) where
  -- an id that is no page
  pub lower_none : is_page count j ≡ false → lower count read s j ≡ unreadable
  unfolding lower
  lower_none e = rw e

  -- where the page is there, by what is read of its header
  module _ {H : Type 0} {reads : Read → Option H} {first : H → ℕ} (laws : HeadedLaws reads first) (p : is_page count j ≡ true) where
    pub lower_missing : None ≡ reads (read j) → None ≡ reads (lower count read s j)
    unfolding lower
    lower_missing e = rw p (by (read j) e)
      where
        either : (k : DataHeader) → None ≡ reads (readable k) → (b : Bool) → None ≡ reads (cond b (readable k) unreadable)
        either k q true = q
        either k q false = laws.missing

        by : (a : Read) → None ≡ reads a → None ≡ reads (lower_of s a)
        by unreadable q = q
        by (readable k) q = either k q (ltb k.seq s)

    module _ (x : H) (e : Some x ≡ reads (read j)) where
      pub lower_falls : first x < s → Some x ≡ reads (lower count read s j)
      unfolding lower
      lower_falls l = rw p (by (read j) e)
        where
          by : (a : Read) → Some x ≡ reads a → Some x ≡ reads (lower_of s a)
          by unreadable q = q
          by (readable k) q = let m : k.seq < s = rw (← laws.starts x k q) l in rw (lt-ltb k.seq s m) q

      pub lower_high : s ≤ first x → None ≡ reads (lower count read s j)
      unfolding lower
      lower_high l = rw p (by (read j) e)
        where
          by : (a : Read) → Some x ≡ reads a → None ≡ reads (lower_of s a)
          by unreadable q = laws.missing
          by (readable k) q = let m : s ≤ k.seq = rw (← laws.starts x k q) l in rw (le-ltb k.seq s m) laws.missing

-- ---- a step to a lower page

-- the step that reading it makes
abbrev pub reached : ℕ → Read → Stepped
reached j unreadable = breaks
reached j (readable h) = reaches (record { page_id = j; header = h })

-- of a rule that asks that the seq falls
lower_entered : (r : Rule) (p : PagePointer) (j : ℕ) → ((h : DataHeader) → r.meets p h ≡ ltb h.seq (start p)) → (a : Read)
    → entered r p j a ≡ reached j (lower_of (start p) a)
lower_entered r p j asks unreadable = refl
lower_entered r p j asks (readable h) = rw (asks h) (by (ltb h.seq (start p)))
  where
    q : PagePointer
    q = record { page_id = j; header = h }

    by : (b : Bool) → cond b (reaches q) breaks ≡ reached j (cond b (readable h) unreadable)
    by true = refl
    by false = refl

lower_stepped : (r : Rule) (read : ℕ → Read) (p : PagePointer) (count j : ℕ) → ((h : DataHeader) → r.meets p h ≡ ltb h.seq (start p))
    → stepped r read p (towards count j) ≡ reached j (lower count read (start p) j)
unfolding towards lower
lower_stepped r read p count j asks = by (is_page count j)
  where
    by : (b : Bool) → stepped r read p (cond b (via j) lost) ≡ reached j (cond b (lower_of (start p) (read j)) unreadable)
    by true = lower_entered r p j asks (read j)
    by false = refl

module _ (count : ℕ) (read : ℕ → Read) (t : ℕ) (p : PagePointer) where
  -- a step back stays at or below the limit, and at a link of none
  pub back_stays : (start p ≤ t) ⊎ (link p 0 ≡ none) → step (back_rule count t) read p ≡ stays
  unfolding step
  back_stays (inl h) = rw (back_here count t p h)
  back_stays (inr e) = go (dec_le (start p) t)
    where
      go : Dec (start p ≤ t) → stepped (back_rule count t) read p ((back_rule count t).way p) ≡ stays
      go (yes h) = rw (back_here count t p h)
      go (no h) = rw (back_none count t p (lt_of_not-le h) e)

  pub back_goes : t < start p → (link p 0 ≡ none → ⊥) → step (back_rule count t) read p ≡ reached (link p 0) (lower count read (start p) (link p 0))
  unfolding step
  back_goes h n = rw (back_on count t p h n) (lower_stepped (back_rule count t) read p count (link p 0) (back_asks count t p))

  -- a seek's step stays at or below the target
  pub seek_stays : start p ≤ t → step (seek_rule count t) read p ≡ stays
  unfolding step
  seek_stays h = rw (seek_here count t p h)

  seek_goes : {j : ℕ} → t < start p → j ≡ link p (level t (start p)) → step (seek_rule count t) read p ≡ reached j (lower count read (start p) j)
  unfolding step
  seek_goes h e =
      rw (seek_on count t p h, e, level_below h) (lower_stepped (seek_rule count t) read p count (link p (index t (start p))) (seek_asks count t p))

  -- what the code read, and the step that it is
  module _ (j : ℕ) (h : t < start p) (l : j ≡ link p (level t (start p))) where
    pub seek_reaches : (x : DataHeader) → Some x ≡ gives (lower count read (start p) j) → step (seek_rule count t) read p ≡ reaches (record { page_id = j; header = x })
    seek_reaches x e = seek_goes h l ∙ ap (reached j) (given_read (Some x) (lower count read (start p) j) x e refl)

    pub seek_breaks : None ≡ gives (lower count read (start p) j) → step (seek_rule count t) read p ≡ breaks
    seek_breaks e = seek_goes h l ∙ ap (reached j) (given_none None (lower count read (start p) j) e refl)

-- ---- a step, as the code tells it

abbrev pub StepsTo : Stepped → Step PagePointer → Type 0
StepsTo s Stays = s ≡ stays
StepsTo s Breaks = s ≡ breaks
StepsTo s (Reaches q) = s ≡ reaches q

steps_of : (s : Stepped) → StepsTo s (told s)
steps_of stays = refl
steps_of breaks = refl
steps_of (reaches q) = refl

pub steps_to : (x : Step PagePointer) (s : Stepped) → x ≡ told s → StepsTo s x
steps_to x s e = subst (StepsTo s) (sym e) (steps_of s)

-- ---- the answer of a seek by its steps

-- what is answered in the end, from page p on, after n headers
abbrev pub after : Rule → (ℕ → Read) → ℕ → PagePointer → Option Found
after r read n p = located_by (n + length (trace r read p).path) (trace r read p).ends

pub after_first : (r : Rule) (read : ℕ → Read) (p : PagePointer) (n : ℕ) → n ≡ 0 → after r read n p ≡ located (trace r read p)
after_first r read p n e =
    let l = length (trace r read p).path in
    let m : n + l ≡ l = omega arith in
    ap (λ (x : ℕ). located_by x (trace r read p).ends) m

module _ (r : Rule) (read : ℕ → Read) (n : ℕ) (p : PagePointer) where
  pub after_stays : trace r read p ≡ stop (at p) → Some (record { count = n; page = p }) ≡ after r read n p
  after_stays e = sym (ap (λ (t : Trace). located_by (n + length t.path) t.ends) e ∙ simp add-zero)

  pub after_breaks : (trace r read p).ends ≡ damaged → None ≡ after r read n p
  after_breaks e = sym (ap (located_by (n + length (trace r read p).path)) e)

  pub after_reaches : (q : PagePointer) → trace r read p ≡ through q.page_id (trace r read q) → after r read (n + 1) q ≡ after r read n p
  after_reaches q e =
      let l = length (trace r read q).path in
      let m : n + 1 + l ≡ n + suc l = omega arith in
      ap (λ (x : ℕ). located_by x (trace r read q).ends) m ∙ sym (ap (λ (t : Trace). located_by (n + length t.path) t.ends) e)
