-- One store at one page, and what it leaves as it was. Assumes nothing.
use Prim.Native.Nat.{ℕ, ◌≤◌}
use mathlib.Core.Path.{◌≡◌, sym, ◌∙◌}
use native.Mathlib.Omega.{arith}
use native.Mathlib.Decide.{ℕ_discrete}
use Rattle.owners.specs.Moves.{Change, NotMeta, Loose}
use Rattle.owners.specs.State.{Best, Base, Mounted, Now, Kept, Inv}
use Rattle.owners.specs.Store.{Page, Store, File, Owner, free, meta, writer, file, FileAt}
use Rattle.owners.proofs.Walks.{file_frame}

-- several stores at one page are one
pub change_again : {s s' s'' : Store} {p : ℕ} {x y : Page} → Change s s' p x → Change s' s'' p y → Change s s'' p y
change_again a b = record { at = b.at; off = λ q n. b.off q n ∙ a.off q n }

pub file_change : {s s' : Store} {p : ℕ} {x : Page} {pc : ℕ} {f : File} {own : ℕ → Owner} {i : ℕ} → Change s s' p x → (own p ≡ file i → ⊥) →
    FileAt s pc f own i → FileAt s' pc f own i
file_change {p = p} {own = own} {i = i} h n a =
    file_frame a (λ q e. h.off q (λ (z : q ≡ p). n (rw z at e))) (λ q e. e) (λ q e. e)

best_change : {s s' : Store} {p : ℕ} {x : Page} {N mp q : ℕ} → Change s s' p x → NotMeta x → Best s N mp q → Best s' N mp q
best_change {s} {s'} {p} {x} {N} {mp} {q} h n g r c m l b e = go (ℕ_discrete r p)
  where
    go : Dec (r ≡ p) → (c ≤ q) × (c ≡ q → mp ≤ r)
    go (yes z) = absurd (rw (sym h.at ∙ rw z at e) at n)
    go (no z) = g r c m l b (sym (h.off r z) ∙ e)

-- a store of no metadata off the committed pages leaves mount's finding as it was
pub mounted_change : {N : ℕ} {s s' : Store} {b : Base} {p : ℕ} {x : Page} → Change s s' p x → NotMeta x → Loose b.own p → Mounted N s b → Mounted N s' b
mounted_change {b = b} {p = p} h n f m =
    record {
      log = m.log;
      page = h.off b.mp (λ (z : b.mp ≡ p). f.no_meta (rw z at m.owners.meta_at)) ∙ m.page;
      pos = m.pos;
      mp_in = m.mp_in;
      pc_in = m.pc_in;
      best = best_change h n m.best;
      log_ok = m.log_ok;
      vals = m.vals;
      above = m.above;
      files = λ i. file_change h (f.no_file i) (m.files i);
      same = λ q i e. h.off q (λ (z : q ≡ p). f.no_file i (rw z at e)) ∙ m.same q i e;
      owners = m.owners;
      unheld = m.unheld;
      unwritten = m.unwritten;
    }

-- a page that is free or the writer's now is loose
pub loose : {N : ℕ} {s : Store} {b : Base} {c : Now} {p : ℕ} → Inv N s b c → (c.own p ≡ meta → ⊥) → (Kept (c.own p) → ⊥) → Loose b.own p
loose {b = b} {c = c} {p = p} v n k =
    record {
      no_meta = λ e. n (rw (v.mounted.owners.meta_only p e) v.owners.meta_at);
      no_file = λ i e. k (v.keep p i e);
    }

pub loose_free : {N : ℕ} {s : Store} {b : Base} {c : Now} {p : ℕ} → Inv N s b c → c.own p ≡ free → Loose b.own p
loose_free v e = loose v (λ z. let u : ◌≡◌ {A = ℕ} 0 1 = cc in omega arith) (λ k. rw e at k)

pub loose_writer : {N : ℕ} {s : Store} {b : Base} {c : Now} {p : ℕ} → Inv N s b c → c.own p ≡ writer → Loose b.own p
loose_writer v e = loose v (λ z. let u : ◌≡◌ {A = ℕ} 0 1 = cc in omega arith) (λ k. rw e at k)
