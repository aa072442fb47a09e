-- Moves of ownership, and the invariant under a move: pages taken or dropped by the writer, and a call that changes one file. Assumes nothing.
use Prim.Native.Nat.{ℕ, ◌≤◌, ◌<◌}
use mathlib.Core.Path.{◌≡◌, refl, sym, ap, ◌∙◌}
use mathlib.Core.Bool.{true, false}
use native.Mathlib.Omega.{arith}
use native.Mathlib.Decide.{ℕ_discrete}
use Rattle.owners.specs.Moves.{give, dropped, set_f, set_d}
use Rattle.owners.specs.State.{Owners, Base, Mounted, Writer, shut, Now, Kept, WriterOk, Inv}
use Rattle.owners.specs.Store.{Store, pick, File, gone, Owner, free, held, meta, writer, outside, file, FileAt}
use Rattle.owners.proofs.Walks.{file_frame}

-- an owner that only a transaction changes
abbrev pub Settled : Owner → Type 0
Settled free = ⊥
Settled held = Unit {0}
Settled meta = Unit {0}
Settled writer = ⊥
Settled outside = Unit {0}
Settled (file i) = Unit {0}

abbrev pub Same : (ℕ → Owner) → (ℕ → Owner) → Type 0
Same own own' = (x : ℕ) (o : Owner) → Settled o → (own x ≡ o → own' x ≡ o) × (own' x ≡ o → own x ≡ o)

pub give_at : (own : ℕ → Owner) (p : ℕ) (w : Owner) → give own p w p ≡ w
give_at own p w = go (ℕ_discrete p p)
  where
    go : (d : Dec (p ≡ p)) → pick d w (own p) ≡ w
    go (yes e) = refl
    go (no n) = absurd (n refl)

pub give_off : (own : ℕ → Owner) (p : ℕ) (w : Owner) (x : ℕ) → ¬ (x ≡ p) → give own p w x ≡ own x
give_off own p w x n = go (ℕ_discrete x p)
  where
    go : (d : Dec (x ≡ p)) → pick d w (own x) ≡ own x
    go (yes e) = absurd (n e)
    go (no m) = refl

-- a free page taken by the writer
pub take_same : (own : ℕ → Owner) (p : ℕ) → own p ≡ free → Same own (give own p writer)
take_same own p e x o t = go (ℕ_discrete x p)
  where
    go : (d : Dec (x ≡ p)) → (own x ≡ o → pick d writer (own x) ≡ o) × (pick d writer (own x) ≡ o → own x ≡ o)
    go (yes z) = (λ h. absurd (rw (← (sym (ap own z ∙ e) ∙ h)) at t), λ h. absurd (rw (← h) at t))
    go (no z) = (λ h. h, λ h. h)

drop_one : (a o : Owner) → Settled o → (a ≡ o → dropped a ≡ o) × (dropped a ≡ o → a ≡ o)
drop_one free o t = (λ h. h, λ h. h)
drop_one held o t = (λ h. h, λ h. h)
drop_one meta o t = (λ h. h, λ h. h)
drop_one writer o t = (λ h. absurd (rw (← h) at t), λ h. absurd (rw (← h) at t))
drop_one outside o t = (λ h. h, λ h. h)
drop_one (file i) o t = (λ h. h, λ h. h)

pub drop_same : (own : ℕ → Owner) → Same own (λ x. dropped (own x))
drop_same own x o t = drop_one (own x) o t

pub drop_unwritten : (o : Owner) → dropped o ≡ writer → ⊥
drop_unwritten free e = let u : ◌≡◌ {A = ℕ} 0 1 = cc in omega arith
drop_unwritten held e = let u : ◌≡◌ {A = ℕ} 0 1 = cc in omega arith
drop_unwritten meta e = let u : ◌≡◌ {A = ℕ} 0 1 = cc in omega arith
drop_unwritten writer e = let u : ◌≡◌ {A = ℕ} 0 1 = cc in omega arith
drop_unwritten outside e = let u : ◌≡◌ {A = ℕ} 0 1 = cc in omega arith
drop_unwritten (file i) e = let u : ◌≡◌ {A = ℕ} 0 1 = cc in omega arith

pub kept_same : (own own' : ℕ → Owner) → Same own own' → (p : ℕ) → Kept (own p) → Kept (own' p)
kept_same own own' g p k = go (own p) refl k
  where
    go : (o : Owner) → own p ≡ o → Kept o → Kept (own' p)
    go held e t = rw ((g p held tt).0 e) tt
    go (file i) e t = rw ((g p (file i) tt).0 e) tt
    go free e t = absurd t
    go meta e t = absurd t
    go writer e t = absurd t
    go outside e t = absurd t

pub owners_same : {pc mp : ℕ} {own own' : ℕ → Owner} → Same own own' → Owners pc mp own → Owners pc mp own'
owners_same {mp = mp} g o =
    record {
      meta_at = (g mp meta tt).0 o.meta_at;
      meta_only = λ p e. o.meta_only p ((g p meta tt).1 e);
      out_at = λ p h. (g p outside tt).0 (o.out_at p h);
      out_only = λ p e. o.out_only p ((g p outside tt).1 e);
    }

-- a call that changes only the writer, its pages and the store on them
pub inv_write : {N : ℕ} {s s' : Store} {b : Base} {c : Now} (own' : ℕ → Owner) (wr' : Writer) → Inv N s b c → Mounted N s' b →
    ((p i : ℕ) → c.own p ≡ file i → s' p ≡ s p) → Same c.own own' → WriterOk s' b.pc c.tab own' wr' →
    Inv N s' b (record { tab = c.tab; own = own'; dirty = c.dirty; tx = c.tx; wr = wr' })
inv_write {c = c} own' wr' v m a g w =
    record {
      mounted = m;
      files = λ i. file_frame (v.files i) (λ p e. a p i e) (λ p. (g p (file i) tt).0) (λ p. (g p (file i) tt).1);
      owners = owners_same g v.owners;
      keep = λ p i e. kept_same c.own own' g p (v.keep p i e);
      undirty = v.undirty;
      closed = v.closed;
      unheld = λ t p e. v.unheld t p ((g p held tt).1 e);
      above = v.above;
      wr_ok = w;
    }

-- not the writer
abbrev pub Unwritten : Owner → Type 0
Unwritten free = Unit {0}
Unwritten held = Unit {0}
Unwritten meta = Unit {0}
Unwritten writer = ⊥
Unwritten outside = Unit {0}
Unwritten (file i) = Unit {0}

pub unwritten : (o : Owner) → (o ≡ writer → ⊥) → Unwritten o
unwritten free n = tt
unwritten held n = tt
unwritten meta n = tt
unwritten writer n = n refl
unwritten outside n = tt
unwritten (file i) n = tt

-- what a call on file i may do with a page, no writer being open after it
pub data Shift (i : ℕ) : Owner → Owner → Type 0 where
  same : {o : Owner} → Unwritten o → Shift i o o
  hold : Shift i (file i) held
  gain : Shift i writer (file i)

-- an owner that such a call leaves as it is
abbrev pub Other : ℕ → Owner → Type 0
Other i free = ⊥
Other i held = ⊥
Other i meta = Unit {0}
Other i writer = ⊥
Other i outside = Unit {0}
Other i (file j) = ¬ (j ≡ i)

pub shift_other : {i : ℕ} {a a' : Owner} → Shift i a a' → (o : Owner) → Other i o → (a ≡ o → a' ≡ o) × (a' ≡ o → a ≡ o)
shift_other (same n) o t = (λ h. h, λ h. h)
shift_other hold o t = (λ h. absurd ((rw (← h) at t) refl), λ h. absurd (rw (← h) at t))
shift_other gain o t = (λ h. absurd (rw (← h) at t), λ h. absurd ((rw (← h) at t) refl))

pub shift_kept : {i : ℕ} {a a' : Owner} → Shift i a a' → Kept a → Kept a'
shift_kept (same n) k = k
shift_kept hold k = tt
shift_kept gain k = tt

pub shift_unwritten : {i : ℕ} {a a' : Owner} → Shift i a a' → a' ≡ writer → ⊥
shift_unwritten (same n) e = rw e at n
shift_unwritten hold e = let u : ◌≡◌ {A = ℕ} 0 1 = cc in omega arith
shift_unwritten gain e = let u : ◌≡◌ {A = ℕ} 0 1 = cc in omega arith

-- a call that opens a transaction, changes file i to f, and leaves no writer open
pub inv_set : {N : ℕ} {s s' : Store} {b : Base} {c : Now} (i : ℕ) (f : File) (own' : ℕ → Owner) → Inv N s b c → i < 8 → Mounted N s' b →
    ((p j : ℕ) → c.own p ≡ file j → ¬ (j ≡ i) → s' p ≡ s p) → ((p : ℕ) → Shift i (c.own p) (own' p)) → FileAt s' b.pc f own' i →
    Inv N s' b (record { tab = set_f c.tab i f; own = own'; dirty = set_d c.dirty i; tx = true; wr = shut })
inv_set {N} {s} {s'} {b} {c} i f own' v i8 m a g k =
    record {
      mounted = m;
      files = λ j. files j (ℕ_discrete j i);
      owners =
          record {
            meta_at = (shift_other (g b.mp) meta tt).0 v.owners.meta_at;
            meta_only = λ p e. v.owners.meta_only p ((shift_other (g p) meta tt).1 e);
            out_at = λ p h. (shift_other (g p) outside tt).0 (v.owners.out_at p h);
            out_only = λ p e. v.owners.out_only p ((shift_other (g p) outside tt).1 e);
          };
      keep = λ p j e. shift_kept (g p) (v.keep p j e);
      undirty = λ j. undirty j (ℕ_discrete j i);
      closed = λ e. let u : ◌≡◌ {A = ℕ} 0 1 = cc in absurd (omega arith);
      unheld = λ e. let u : ◌≡◌ {A = ℕ} 0 1 = cc in absurd (omega arith);
      above = λ j h. above j h (ℕ_discrete j i);
      wr_ok = λ p. shift_unwritten (g p);
    }
  where
    files : (j : ℕ) (d : Dec (j ≡ i)) → FileAt s' b.pc (pick d f (c.tab j)) own' j
    files j (yes e) = rw e k
    files j (no n) = file_frame (v.files j) (λ p e. a p j e n) (λ p. (shift_other (g p) (file j) n).0) (λ p. (shift_other (g p) (file j) n).1)

    undirty : (j : ℕ) (d : Dec (j ≡ i)) → pick d true (c.dirty j) ≡ false → pick d f (c.tab j) ≡ b.tab j
    undirty j (yes e) h = cc
    undirty j (no n) h = v.undirty j h

    above : (j : ℕ) → 8 ≤ j → (d : Dec (j ≡ i)) → pick d f (c.tab j) ≡ gone
    above j h (yes e) = absurd (omega arith)
    above j h (no n) = v.above j h
