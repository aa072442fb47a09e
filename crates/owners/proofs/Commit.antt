-- Commit: mount of what it leaves finds the table. Assumes nothing.
use Prim.Native.Nat.{ℕ, ◌+◌, ◌≤◌, ◌<◌}
use mathlib.Core.Path.{◌≡◌, refl, sym, ap, ◌∙◌}
use mathlib.Core.Bool.{Bool, true, false}
use native.Mathlib.Omega.{arith}
use native.Mathlib.Decide.{ℕ_discrete}
use Rattle.metalog.specs.Log.{Replay}
use Rattle.owners.specs.Moves.{Change, give, release, release_all, moved_to, new_base, settled}
use Rattle.owners.specs.State.{val_in, val_of, Best, Owners, Base, Mounted, shut, Now, WriterOk, Inv}
use Rattle.owners.specs.Store.{Page, met, Store, pick, Owner, free, held, meta, writer, outside, file}
use Rattle.owners.proofs.Owned.{give_at}
use Rattle.owners.proofs.Tables.{inv_marks, inv_mount}
use Rattle.owners.proofs.Walks.{file_frame}
use Rattle.owners.proofs.Writing.{inside}

abbrev Firm : Owner → Type 0
Firm free = ⊥
Firm held = ⊥
Firm meta = Unit {0}
Firm writer = Unit {0}
Firm outside = Unit {0}
Firm (file i) = Unit {0}

pub release_firm : (a o : Owner) → Firm o → (a ≡ o → release a ≡ o) × (release a ≡ o → a ≡ o)
release_firm free o t = (λ h. h, λ h. h)
release_firm held o t = (λ h. absurd (rw (← h) at t), λ h. absurd (rw (← h) at t))
release_firm meta o t = (λ h. h, λ h. h)
release_firm writer o t = (λ h. h, λ h. h)
release_firm outside o t = (λ h. h, λ h. h)
release_firm (file i) o t = (λ h. h, λ h. h)

pub release_unheld : (o : Owner) → release o ≡ held → ⊥
release_unheld free e = let u : ◌≡◌ {A = ℕ} 0 1 = cc in omega arith
release_unheld held e = let u : ◌≡◌ {A = ℕ} 0 1 = cc in omega arith
release_unheld meta e = let u : ◌≡◌ {A = ℕ} 0 1 = cc in omega arith
release_unheld writer e = let u : ◌≡◌ {A = ℕ} 0 1 = cc in omega arith
release_unheld outside e = let u : ◌≡◌ {A = ℕ} 0 1 = cc in omega arith
release_unheld (file i) e = let u : ◌≡◌ {A = ℕ} 0 1 = cc in omega arith

owners_release : {pc mp : ℕ} {own : ℕ → Owner} → Owners pc mp own → Owners pc mp (λ x. release (own x))
owners_release {pc} {mp} {own} o =
    record {
      meta_at = (release_firm (own mp) meta tt).0 o.meta_at;
      meta_only = λ p e. o.meta_only p ((release_firm (own p) meta tt).1 e);
      out_at = λ p h. (release_firm (own p) outside tt).0 (o.out_at p h);
      out_only = λ p e. o.out_only p ((release_firm (own p) outside tt).1 e);
    }

module _ {N : ℕ} {s : Store} {b : Base} {c : Now} (v : Inv N s b c) (shut_now : c.wr ≡ shut) where
  pub idle : (p : ℕ) → c.own p ≡ writer → ⊥
  idle = let w : WriterOk s b.pc c.tab c.own shut = rw shut_now at v.wr_ok in w

  -- any store with a metadata page that says the table, over the files' pages as they are
  pub committed : {s' : Store} (mp' q' : ℕ) (log' : Replay) (own' : ℕ → Owner) → ((p i : ℕ) → c.own p ≡ file i → s' p ≡ s p) →
      s' mp' ≡ met q' b.pc log' → 0 < q' → mp' < b.pc → Best s' N mp' q' → log'.ok ≡ true → ((i : ℕ) → i < 8 → val_of (c.tab i) ≡ val_in log'.files i) →
      ((p i : ℕ) → (c.own p ≡ file i → own' p ≡ file i) × (own' p ≡ file i → c.own p ≡ file i)) → Owners b.pc mp' own' →
      ((p : ℕ) → own' p ≡ held → ⊥) → ((p : ℕ) → own' p ≡ writer → ⊥) → Mounted N s' (new_base s mp' q' b c own')
  committed mp' q' log' own' a h pos mp_in best log_ok vals g o n m =
      record {
        log = log';
        page = h;
        pos = pos;
        mp_in = mp_in;
        pc_in = v.mounted.pc_in;
        best = best;
        log_ok = log_ok;
        vals = vals;
        above = v.above;
        files = λ i. file_frame (v.files i) (λ p e. a p i e) (λ p. (g p i).0) (λ p. (g p i).1);
        same = λ p i e. a p i ((g p i).1 e);
        owners = o;
        unheld = n;
        unwritten = m;
      }

  released_unwritten : (p : ℕ) → release (c.own p) ≡ writer → ⊥
  released_unwritten p e = idle p ((release_firm (c.own p) writer tt).1 e)

  -- the files' pages are not the metadata page
  off_meta : {s' : Store} {x : Page} → Change s s' b.mp x → (p i : ℕ) → c.own p ≡ file i → s' p ≡ s p
  off_meta h p i e = h.off p (λ (z : p ≡ b.mp). let u : meta ≡ file i = sym v.owners.meta_at ∙ ap c.own (sym z) ∙ e in let u : ◌≡◌ {A = ℕ} 0 1 = cc in omega arith)

  -- none dirty: nothing stored
  pub commit_none : ((i : ℕ) → i < 8 → c.dirty i ≡ false) → Mounted N s (new_base s b.mp b.mseq b c (release_all c.own))
  commit_none e =
      let m = v.mounted in
      committed b.mp b.mseq m.log (release_all c.own) (λ p i e. refl) m.page m.pos m.mp_in m.best m.log_ok
      (λ i h. ap val_of (v.undirty i (e i h)) ∙ m.vals i h) (λ p i. release_firm (c.own p) (file i) tt) (owners_release v.owners)
      (λ p. release_unheld (c.own p)) released_unwritten

  best_meta : {s' : Store} {n : ℕ} {l : Replay} → Change s s' b.mp (met b.mseq n l) → Best s' N b.mp b.mseq
  best_meta {s'} {n} {l} h p r k l' a e = go (ℕ_discrete p b.mp)
    where
      go : Dec (p ≡ b.mp) → (r ≤ b.mseq) × (r ≡ b.mseq → b.mp ≤ p)
      go (yes z) = let u : met b.mseq n l ≡ met r k l' = sym h.at ∙ rw z at e in let u : b.mseq ≡ r = cc in (omega arith, λ y. omega arith)
      go (no z) = v.mounted.best p r k l' a (sym (h.off p z) ∙ e)

  -- the log of the metadata page replays to the table: mount finds it
  pub commit_append : {s' : Store} (log' : Replay) → Change s s' b.mp (met b.mseq b.pc log') → log'.ok ≡ true →
      ((i : ℕ) → i < 8 → val_of (c.tab i) ≡ val_in log'.files i) → Mounted N s' (new_base s b.mp b.mseq b c (release_all c.own))
  commit_append log' h ok vals =
      committed b.mp b.mseq log' (release_all c.own) (off_meta h) h.at v.mounted.pos v.mounted.mp_in (best_meta h) ok vals
      (λ p i. release_firm (c.own p) (file i) tt) (owners_release v.owners) (λ p. release_unheld (c.own p)) released_unwritten

  -- a new metadata page p, that was free
  module _ (p : ℕ) (p_free : c.own p ≡ free) where
    best_new : {s' : Store} {n : ℕ} {l : Replay} → Change s s' p (met (b.mseq + 1) n l) → Best s' N p (b.mseq + 1)
    best_new {s'} {n} {l} h x r k l' a e = go (ℕ_discrete x p)
      where
        go : Dec (x ≡ p) → (r ≤ b.mseq + 1) × (r ≡ b.mseq + 1 → p ≤ x)
        go (yes z) = let u : met (b.mseq + 1) n l ≡ met r k l' = sym h.at ∙ rw z at e in let u : b.mseq + 1 ≡ r = cc in (omega arith, λ y. omega arith)
        go (no z) = let u = v.mounted.best x r k l' a (sym (h.off x z) ∙ e) in (omega (arith, u.0), λ y. absurd (omega (arith, u.0)))

    -- which of them has a page after the move
    moved_cases : (x : ℕ) (P : Owner → Type 0) → (x ≡ p → P meta) → (¬ (x ≡ p) → x ≡ b.mp → P free) → (¬ (x ≡ p) → ¬ (x ≡ b.mp) → P (release (c.own x))) → P (moved_to p b.mp c.own x)
    moved_cases x P f g h = go (ℕ_discrete x p) (ℕ_discrete x b.mp)
      where
        go : (d : Dec (x ≡ p)) (d' : Dec (x ≡ b.mp)) → P (pick d meta (pick d' free (release (c.own x))))
        go (yes z) d' = f z
        go (no z) (yes y) = g z y
        go (no z) (no y) = h z y

    p_in : p < b.pc
    p_in = inside v.owners (λ z. let u : ◌≡◌ {A = ℕ} 0 1 = cc p_free in omega arith)

    moved_file : (x i : ℕ) → (c.own x ≡ file i → moved_to p b.mp c.own x ≡ file i) × (moved_to p b.mp c.own x ≡ file i → c.own x ≡ file i)
    moved_file x i =
        moved_cases x (λ o. (c.own x ≡ file i → o ≡ file i) × (o ≡ file i → c.own x ≡ file i))
        (λ z. (λ h. let u : free ≡ file i = sym p_free ∙ ap c.own (sym z) ∙ h in cc, λ h. cc))
        (λ n z. (λ h. let u : meta ≡ file i = sym v.owners.meta_at ∙ ap c.own (sym z) ∙ h in cc, λ h. cc))
        (λ n m. release_firm (c.own x) (file i) tt)

    moved_owners : Owners b.pc p (moved_to p b.mp c.own)
    moved_owners =
        record {
          meta_at = give_at (give (release_all c.own) b.mp free) p meta;
          meta_only = λ x. moved_cases x (λ o. o ≡ meta → x ≡ p) (λ z h. z) (λ n z h. cc) (λ n m h. absurd (m (v.owners.meta_only x ((release_firm (c.own x) meta tt).1 h))));
          out_at =
              λ x h. moved_cases x (λ o. o ≡ outside) (λ z. absurd (omega (arith, p_in))) (λ n z. absurd (omega (arith, v.mounted.mp_in)))
              (λ n m. (release_firm (c.own x) outside tt).0 (v.owners.out_at x h));
          out_only =
              λ x. moved_cases x (λ o. o ≡ outside → b.pc ≤ x) (λ z h. let u : ◌≡◌ {A = ℕ} 0 1 = cc in absurd (omega arith)) (λ n z h. let u : ◌≡◌ {A = ℕ} 0 1 = cc in absurd (omega arith))
              (λ n m h. v.owners.out_only x ((release_firm (c.own x) outside tt).1 h));
        }

    pub commit_move : {s' : Store} (log' : Replay) → Change s s' p (met (b.mseq + 1) b.pc log') → log'.ok ≡ true →
        ((i : ℕ) → i < 8 → val_of (c.tab i) ≡ val_in log'.files i) → Mounted N s' (new_base s p (b.mseq + 1) b c (moved_to p b.mp c.own))
    commit_move log' h ok vals =
        committed p (b.mseq + 1) log' (moved_to p b.mp c.own)
        (λ x i e. h.off x (λ (z : x ≡ p). let u : free ≡ file i = sym p_free ∙ ap c.own (sym z) ∙ e in let u : ◌≡◌ {A = ℕ} 0 1 = cc in omega arith))
        h.at (omega arith) p_in (best_new h) ok vals moved_file moved_owners
        (λ x. moved_cases x (λ o. o ≡ held → ⊥) (λ z e. let u : ◌≡◌ {A = ℕ} 0 1 = cc in omega arith) (λ n z e. let u : ◌≡◌ {A = ℕ} 0 1 = cc in omega arith) (λ n m. release_unheld (c.own x)))
        (λ x. moved_cases x (λ o. o ≡ writer → ⊥) (λ z e. let u : ◌≡◌ {A = ℕ} 0 1 = cc in omega arith) (λ n z e. let u : ◌≡◌ {A = ℕ} 0 1 = cc in omega arith) (λ n m. released_unwritten x))

-- the state after a commit keeps the marks
pub inv_settled : {N : ℕ} {s : Store} {b : Base} (d : ℕ → Bool) → Mounted N s b → Inv N s b (settled b d)
inv_settled d m = inv_marks d (inv_mount m) (λ i h. refl)
