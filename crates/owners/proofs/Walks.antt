-- Walks: framing, determinism, shortening. Assumes nothing.
use Prim.Native.Nat.{ℕ, ◌≤◌, ◌<◌}
use mathlib.Core.Path.{◌≡◌, refl, ap, ◌∙◌}
use mathlib.Core.List.{List, [], ◌∷◌, ◌++◌}
use native.Mathlib.Omega.{arith}
use native.Mathlib.Decide.{dec_le}
use Rattle.owners.specs.Moves.{mem_nil}
use Rattle.owners.specs.Store.{Link, dat, Store, File, Owner, file, Mem, here, there, Walk, stop, root, step, FileOk, empty, full, FileAt}

pub walk_head : {s : Store} {pc first p : ℕ} {l : List ℕ} → Walk s pc first p l → Mem p l
walk_head (stop h a) = here
walk_head (root h a) = here
walk_head (step h a b h' c w) = here

-- a walk depends only on the pages that it visits
pub walk_frame : {s s' : Store} {pc first p : ℕ} {l : List ℕ} → Walk s pc first p l → ((x : ℕ) → Mem x l → s' x ≡ s x) → Walk s' pc first p l
walk_frame (stop h a) g = stop (g _ here ∙ h) a
walk_frame (root h a) g = root (g _ here ∙ h) a
walk_frame (step h a b h' c w) g = step (g _ here ∙ h) a b (g _ (there (walk_head w)) ∙ h') c (walk_frame w (λ x m. g x (there m)))

-- so does a file's standing
pub ok_frame : {s s' : Store} {pc : ℕ} {f : File} {l : List ℕ} → FileOk s pc f l → ((x : ℕ) → Mem x l → s' x ≡ s x) → FileOk s' pc f l
ok_frame empty g = empty
ok_frame (full a h b c d w) g = full a (g _ (walk_head w) ∙ h) b c d (walk_frame w g)

-- THE framing lemma: a file stands where the stores agree on what it owns and it owns the same pages
pub file_frame : {s s' : Store} {pc : ℕ} {f : File} {own own' : ℕ → Owner} {i j : ℕ} → FileAt s pc f own i →
    ((p : ℕ) → own p ≡ file i → s' p ≡ s p) → ((p : ℕ) → own p ≡ file i → own' p ≡ file j) → ((p : ℕ) → own' p ≡ file j → own p ≡ file i) →
    FileAt s' pc f own' j
file_frame a g u v =
    record {
      pages = a.pages;
      ok = ok_frame a.ok (λ x m. g x (a.mine x m));
      mine = λ p m. u p (a.mine p m);
      all = λ p e. a.all p (v p e);
    }

-- the pages of a walk are below page_count, if its first is
pub walk_below : {s : Store} {pc first p : ℕ} {l : List ℕ} → Walk s pc first p l → p < pc → (x : ℕ) → Mem x l → x < pc
walk_below (stop h a) b x here = b
walk_below (root h a) b x here = b
walk_below (step h a c h' d w) b x here = b
walk_below (step h a c h' d w) b x (there m) = walk_below w c x m
walk_below (stop h a) b x (there m) = elim m [ ]
walk_below (root h a) b x (there m) = elim m [ ]

pub ok_below : {s : Store} {pc : ℕ} {f : File} {l : List ℕ} → FileOk s pc f l → (x : ℕ) → Mem x l → x < pc
ok_below (full a h b c d w) x m = walk_below w a x m
ok_below empty x m = elim m [ ]

-- the walk is the store's: two from one page are one
pub walk_one : {s : Store} {pc first p : ℕ} {l l' : List ℕ} → Walk s pc first p l → Walk s pc first p l' → l ≡ l'
walk_one (stop h a) (stop k b) = refl
walk_one (stop h a) (root k b) = refl
walk_one (stop {q = q} h a) (step {q = r} k b c k' d w) = let e : q ≡ r = cc in absurd (omega arith)
walk_one (root h a) (stop k b) = refl
walk_one (root h a) (root k b) = refl
walk_one (root {p = p} h a) (step {p' = x} k b c k' d w) = cc
walk_one (step {q = q} h a c h' d w) (stop {q = r} k b) = let e : q ≡ r = cc in absurd (omega arith)
walk_one (step h a c h' d w) (root k b) = cc
walk_one (step {p = p} {p' = x} {l = l} h a c h' d w) (step {p' = y} {l = m} k b c' k' d' w') =
    let e : x ≡ y = cc in
    ap (λ (t : List ℕ). p ∷ t) (walk_one w (rw (← e) at w'))

-- a page of the walk behind the first has a smaller seq
pub walk_falls : {s : Store} {pc first p q n : ℕ} {x : List ℕ} {k : Link} {l : List ℕ} → Walk s pc first p l → s p ≡ dat q n k x →
    (z r m : ℕ) (y : List ℕ) (j : Link) → Mem z l → s z ≡ dat r m j y → r ≤ q
walk_falls {q = q} (stop h a) e z r m y j here e' = let u : r ≡ q = cc in omega arith
walk_falls {q = q} (root h a) e z r m y j here e' = let u : r ≡ q = cc in omega arith
walk_falls {q = q} (step h a b h' c w) e z r m y j here e' = let u : r ≡ q = cc in omega arith
walk_falls {q = q} (step {q = q₁} {q' = q₂} h a b h' c w) e z r m y j (there t) e' =
    let u : q₁ ≡ q = cc in
    let v : r ≤ q₂ = walk_falls w h' z r m y j t e' in
    omega arith
walk_falls (stop h a) e z r m y j (there t) e' = elim t [ ]
walk_falls (root h a) e z r m y j (there t) e' = elim t [ ]

-- so it is not the first again
pub walk_fresh : {s : Store} {pc first p q n : ℕ} {x : List ℕ} {p' q' n' : ℕ} {x' : List ℕ} {k k' : Link} {l : List ℕ} →
    s p ≡ dat q n k x → s p' ≡ dat q' n' k' x' → q' < q → Walk s pc first p' l → Mem p l → ⊥
walk_fresh {p = p} {q = q} {n = n} {x = x} {k = k} h h' c w m =
    let v : q ≤ _ = walk_falls w h' p q n x k m h in
    omega arith

pub mem_left : {x : ℕ} {l : List ℕ} (l' : List ℕ) → Mem x l → Mem x (l ++ l')
mem_left l' here = here
mem_left l' (there m) = there (mem_left l' m)

pub mem_right : {x : ℕ} {l' : List ℕ} (l : List ℕ) → Mem x l' → Mem x (l ++ l')
mem_right [] m = m
mem_right (y ∷ l) m = there (mem_right l m)

pub mem_off : {x : ℕ} {l' : List ℕ} (l : List ℕ) → Mem x (l ++ l') → ¬ Mem x l → Mem x l'
mem_off [] m n = m
mem_off (y ∷ l) here n = absurd (n here)
mem_off (y ∷ l) (there m) n = mem_off l m (λ k. n (there k))

-- a walk to a later first is the front part of the walk, and the rest is no part of it
pub record Shorter (s : Store) (pc first' p : ℕ) (l : List ℕ) : Type 0 where
  pub part : List ℕ
  pub rest : List ℕ
  pub walk : Walk s pc first' p part
  pub is : l ≡ part ++ rest
  pub apart : (x : ℕ) → Mem x part → Mem x rest → ⊥

pub shorter_sub : {s : Store} {pc first' p : ℕ} {l : List ℕ} (h : Shorter s pc first' p l) (x : ℕ) → Mem x h.part → Mem x l
shorter_sub h x m = rw h.is (mem_left h.rest m)

pub walk_shorter : {s : Store} {pc first p : ℕ} {l : List ℕ} (first' : ℕ) → Walk s pc first p l → first ≤ first' → Shorter s pc first' p l
walk_shorter f' (stop {p = p} h a) b = record { part = p ∷ []; rest = []; walk = stop h (omega arith); is = refl; apart = λ x m k. mem_nil k refl }
walk_shorter {s} {pc} {l = l} f' (root {p = p} {q = q} h a) b = go (dec_le q f')
  where
    go : Dec (q ≤ f') → Shorter s pc f' p (p ∷ [])
    go (yes c) = record { part = p ∷ []; rest = []; walk = stop h c; is = refl; apart = λ x m k. mem_nil k refl }
    go (no c) = record { part = p ∷ []; rest = []; walk = root h (omega arith); is = refl; apart = λ x m k. mem_nil k refl }
walk_shorter {s} {pc} {first} f' (step {p = p} {q = q} {p' = p'} {l = l} h a c h' d w) b = go (dec_le q f') (walk_shorter f' w b)
  where
    first_apart : (x : ℕ) → Mem x (p ∷ []) → Mem x l → ⊥
    first_apart x here k = walk_fresh h h' d w k
    first_apart x (there x9) k = elim x9 [ ]

    both_apart : (t u : List ℕ) → l ≡ t ++ u → ((x : ℕ) → Mem x t → Mem x u → ⊥) → (x : ℕ) → Mem x (p ∷ t) → Mem x u → ⊥
    both_apart t u e g x here k = walk_fresh h h' d w (rw e (mem_right t k))
    both_apart t u e g x (there m) k = g x m k

    go : Dec (q ≤ f') → Shorter s pc f' p' l → Shorter s pc f' p (p ∷ l)
    go (yes e) r = record { part = p ∷ []; rest = l; walk = stop h e; is = refl; apart = first_apart }
    go (no e) r =
        record {
          part = p ∷ r.part;
          rest = r.rest;
          walk = step h (omega arith) c h' d r.walk;
          is = ap (λ (t : List ℕ). p ∷ t) r.is;
          apart = both_apart r.part r.rest r.is r.apart;
        }
