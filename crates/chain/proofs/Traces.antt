-- Traces of a rule: by their steps, by the pages that they pass, and that they depend on no other page. Assumes nothing.
use mathlib.Core.Path.{◌≡◌, refl, sym, ◌∙◌, ap, subst}
use mathlib.Core.Bool.{Bool, true, false, cond}
use mathlib.Core.List.{List, [], ◌∷◌}
use Prim.Native.Nat.{ℕ, zero, suc, ◌<◌}
use native.Mathlib.Omega.{arith}
use Rattle.page.specs.Page.{Read, unreadable, readable}
use Rattle.chain.specs.declared.PagePointer.{PagePointer}
use Rattle.chain.specs.Links.{start, oldest, ids}
use Rattle.chain.specs.Steps.{Way, halt, lost, via, Rule, Stepped, stays, reaches, breaks, entered, stepped, step, damaged, at, Trace, stop, through, follow, along, go, trace}
use Rattle.chain.specs.Seek.{Agree}
use Rattle.chain.proofs.Rules.{Falling}

-- ---- one step

-- a step from p leads to q
pub record Goes (r : Rule) (read : ℕ → Read) (p q : PagePointer) : Type 0 where
  pub way : r.way p ≡ via q.page_id
  pub stands : read q.page_id ≡ readable q.header
  pub meets : r.meets p q.header ≡ true

-- and so the step reaches q
pub goes_step : (r : Rule) (read : ℕ → Read) (p q : PagePointer) → Goes r read p q → step r read p ≡ reaches q
unfolding step
goes_step r read p q g = simp (g.way, g.stands, g.meets)

-- what a step says of the trace that begins with it
abbrev Went : Rule → (ℕ → Read) → PagePointer → (PagePointer → Trace) → Stepped → Trace → Type 0
Went r read p rest stays t = (r.way p ≡ halt) × (t ≡ stop (at p))
Went r read p rest breaks t = t.ends ≡ damaged
Went r read p rest (reaches q) t = Goes r read p q × (t ≡ through q.page_id (rest q))

module _ (r : Rule) (read : ℕ → Read) (p : PagePointer) (rest : PagePointer → Trace) where
  went_in : (j : ℕ) → r.way p ≡ via j → (a : Read) → read j ≡ a → Went r read p rest (entered r p j a) (through j (follow (entered r p j a) rest))
  went_in j w unreadable e = refl
  went_in j w (readable h) e = test (r.meets p h) refl
    where
      q : PagePointer
      q = record { page_id = j; header = h }

      test : (b : Bool) → r.meets p h ≡ b → Went r read p rest (cond b (reaches q) breaks) (through j (follow (cond b (reaches q) breaks) rest))
      test true m = (record { way = w; stands = e; meets = m }, refl)
      test false m = refl

  went : (w : Way) → r.way p ≡ w → Went r read p rest (stepped r read p w) (along r read p w rest)
  went halt e = (e, refl)
  went lost e = refl
  went (via j) e = went_in j e (read j) refl

-- ---- an image that agrees on the path's headers has the same trace

module _ (r : Rule) (read other : ℕ → Read) where
  abbrev Same : (PagePointer → Trace) → (PagePointer → Trace) → Type 0
  Same rest rest' = (q : PagePointer) → Agree read other (rest q).path → rest' q ≡ rest q

  follow_same : (s : Stepped) (rest rest' : PagePointer → Trace) → Same rest rest' → Agree read other (follow s rest).path → follow s rest' ≡ follow s rest
  follow_same stays rest rest' ih a = refl
  follow_same breaks rest rest' ih a = refl
  follow_same (reaches q) rest rest' ih a = ih q a

  along_same : (p : PagePointer) (w : Way) (rest rest' : PagePointer → Trace) → Same rest rest' → Agree read other (along r read p w rest).path
      → along r other p w rest' ≡ along r read p w rest
  along_same p halt rest rest' ih a = refl
  along_same p lost rest rest' ih a = refl
  along_same p (via j) rest rest' ih a = rw a.0 (ap (through j) (follow_same (entered r p j (read j)) rest rest' ih a.1))

  depends_go : (f : ℕ) (p : PagePointer) → Agree read other (go r read f p).path → go r other f p ≡ go r read f p
  unfolding go
  depends_go zero p a = refl
  depends_go (suc f) p a = along_same p (r.way p) _ _ (λ q b. depends_go f q b) a

  -- for any rule: answer and path are the same on any image that agrees on the headers of the path
  pub depends : (p : PagePointer) → Agree read other (trace r read p).path → trace r other p ≡ trace r read p
  unfolding trace
  depends p a = depends_go (suc (start p)) p a

-- ---- a trace by its steps, for a rule under which the seq falls

module _ (r : Rule) (down : Falling r) (read : ℕ → Read) where
  entered_enough : (p : PagePointer) (j : ℕ) (a : Read) (rest rest' : PagePointer → Trace) → ((q : PagePointer) → start q < start p → rest' q ≡ rest q)
      → follow (entered r p j a) rest' ≡ follow (entered r p j a) rest
  entered_enough p j unreadable rest rest' ih = refl
  entered_enough p j (readable h) rest rest' ih = test (r.meets p h) refl
    where
      q : PagePointer
      q = record { page_id = j; header = h }

      test : (b : Bool) → r.meets p h ≡ b → follow (cond b (reaches q) breaks) rest' ≡ follow (cond b (reaches q) breaks) rest
      test true m = ih q (down p h m)
      test false m = refl

  along_enough : (p : PagePointer) (w : Way) (rest rest' : PagePointer → Trace) → ((q : PagePointer) → start q < start p → rest' q ≡ rest q)
      → along r read p w rest' ≡ along r read p w rest
  along_enough p halt rest rest' ih = refl
  along_enough p lost rest rest' ih = refl
  along_enough p (via j) rest rest' ih = ap (through j) (entered_enough p j (read j) rest rest' ih)

  -- any two fuels above the start
  enough : (f g : ℕ) (p : PagePointer) → start p < f → start p < g → go r read g p ≡ go r read f p
  unfolding go
  enough zero g p hf hg = absurd (omega arith)
  enough (suc f) zero p hf hg = absurd (omega arith)
  enough (suc f) (suc g) p hf hg = along_enough p (r.way p) _ _ (λ q h. enough f g q (omega arith) (omega arith))

  -- so a trace is its first step, and the trace from there
  pub unroll : (p : PagePointer) → trace r read p ≡ along r read p (r.way p) (trace r read)
  unfolding trace go
  unroll p =
      sym (along_enough p (r.way p) (λ q. go r read (start p) q) (trace r read) (λ q h. enough (start p) (suc (start q)) q h (omega arith)))

  abbrev pub Began : PagePointer → Stepped → Type 0
  Began p s = Went r read p (trace r read) s (trace r read p)

  pub began : (p : PagePointer) → Began p (step r read p)
  unfolding step
  began p =
      subst (λ (t : Trace). Went r read p (trace r read) (stepped r read p (r.way p)) t) (sym (unroll p))
      (went r read p (trace r read) (r.way p) refl)

  -- what each kind of step says of the trace that begins with it
  pub stays_trace : (p : PagePointer) → step r read p ≡ stays → trace r read p ≡ stop (at p)
  stays_trace p e = (subst (Began p) e (began p)).1

  pub breaks_trace : (p : PagePointer) → step r read p ≡ breaks → (trace r read p).ends ≡ damaged
  breaks_trace p e = subst (Began p) e (began p)

  pub reaches_trace : (p q : PagePointer) → step r read p ≡ reaches q → (trace r read p ≡ through q.page_id (trace r read q)) × (start q < start p)
  reaches_trace p q e = let b = subst (Began p) e (began p) in (b.1, down p q.header b.0.meets)

  -- the page that a step reaches stands in the image
  pub reaches_stands : (p q : PagePointer) → step r read p ≡ reaches q → read q.page_id ≡ readable q.header
  reaches_stands p q e = (subst (Began p) e (began p)).0.stands

  -- ---- by the pages that it passes

  -- from p by the rule over the pages l, where it ends
  abbrev pub Walked : PagePointer → List PagePointer → Type 0
  Walked p [] = r.way p ≡ halt
  Walked p (q ∷ l) = Goes r read p q × Walked q l

  -- a trace goes on at the page that its first step leads to
  pub goes_trace : (p q : PagePointer) → Goes r read p q → trace r read p ≡ through q.page_id (trace r read q)
  goes_trace p q g = (subst (Began p) (goes_step r read p q g) (began p)).1

  -- that is the trace
  pub walked_trace : (p : PagePointer) (l : List PagePointer) → Walked p l → trace r read p ≡ record { path = ids l; ends = at (oldest p l) }
  walked_trace p [] w = unroll p ∙ simp w
  walked_trace p (q ∷ l) w = goes_trace p q w.0 ∙ ap (through q.page_id) (walked_trace q l w.1)

  trace_within : (f : ℕ) (p e : PagePointer) → start p < f → (trace r read p).ends ≡ at e → (l : List PagePointer) × Walked p l
  trace_within zero p e h g = absurd (omega arith)
  trace_within (suc f) p e h g = by (step r read p) (began p) (λ q l d. trace_within f q e l d)
    where
      by : (s : Stepped) → Began p s → ((q : PagePointer) → start q < f → (trace r read q).ends ≡ at e → (l : List PagePointer) × Walked q l)
          → (l : List PagePointer) × Walked p l
      by stays b ih = ([], b.0)
      by breaks b ih = absurd (let z : ◌≡◌ {A = ℕ} 0 1 = cc in omega arith)
      by (reaches q) b ih =
          let w = ih q (omega (arith, down p q.header b.0.meets)) (sym (ap (λ (t : Trace). t.ends) b.1) ∙ g) in
          (q ∷ w.0, (b.0, w.1))

  -- so a trace that ends at a page has the pages that it passes
  pub trace_walked : (p e : PagePointer) → (trace r read p).ends ≡ at e → (l : List PagePointer) × Walked p l
  trace_walked p e g = trace_within (suc (start p)) p e (omega arith) g
