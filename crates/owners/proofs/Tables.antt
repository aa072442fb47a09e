-- The calls that store nothing keep the invariant: truncate, rename, flags; and a mount starts it. Assumes nothing.
use Prim.Native.Nat.{ℕ, ◌+◌, ◌≤◌, ◌<◌}
use mathlib.Core.Path.{◌≡◌, refl, sym, ap, ◌∙◌}
use mathlib.Core.Bool.{Bool, true, false}
use mathlib.Core.List.{List, []}
use native.Mathlib.Omega.{arith}
use native.Mathlib.Decide.{ℕ_discrete, dec_le}
use Rattle.owners.specs.Moves.{hold_f, mem_nil, mem?, keep_only, swap, swap_o, set_f, set_d, set_first, cut_file, set_flags, fresh, Cut}
use Rattle.owners.specs.State.{Base, Mounted, shut, Now, Kept, first_of, end_of, WriterOk, Inv}
use Rattle.owners.specs.Store.{Store, pick, File, gone, Owner, free, held, meta, writer, outside, file, Mem, FileOk, empty, full, FileAt}
use Rattle.owners.proofs.Owned.{Unwritten, unwritten, Shift, same, hold, inv_set}
use Rattle.owners.proofs.Walks.{file_frame, mem_left, mem_right, mem_off, walk_shorter}

pub pick_yes : {A B : Type 0} → (d : Dec B) → B → (a a' : A) → pick d a a' ≡ a
pick_yes (yes e) h a a' = refl
pick_yes (no n) h a a' = absurd (n h)

pub pick_no : {A B : Type 0} → (d : Dec B) → ¬ B → (a a' : A) → pick d a a' ≡ a'
pick_no (yes e) h a a' = absurd (h e)
pick_no (no n) h a a' = refl

hold_shift : (i : ℕ) (o : Owner) → Unwritten o → Shift i o (hold_f i o)
hold_shift i free n = same tt
hold_shift i held n = same tt
hold_shift i meta n = same tt
hold_shift i writer n = same n
hold_shift i outside n = same tt
hold_shift i (file j) n = go (ℕ_discrete j i)
  where
    go : (d : Dec (j ≡ i)) → Shift i (file j) (pick d held (file j))
    go (yes e) = rw e hold
    go (no m) = same tt

hold_none : (i : ℕ) (o : Owner) → hold_f i o ≡ file i → ⊥
hold_none i free e = let u : ◌≡◌ {A = ℕ} 0 1 = cc in omega arith
hold_none i held e = let u : ◌≡◌ {A = ℕ} 0 1 = cc in omega arith
hold_none i meta e = let u : ◌≡◌ {A = ℕ} 0 1 = cc in omega arith
hold_none i writer e = let u : ◌≡◌ {A = ℕ} 0 1 = cc in omega arith
hold_none i outside e = let u : ◌≡◌ {A = ℕ} 0 1 = cc in omega arith
hold_none i (file j) e = go (ℕ_discrete j i) e
  where
    go : (d : Dec (j ≡ i)) → pick d held (file j) ≡ file i → ⊥
    go (yes z) h = let u : ◌≡◌ {A = ℕ} 0 1 = cc in omega arith
    go (no n) h = n cc

hold_inv : (i : ℕ) (o : Owner) → ¬ (o ≡ held) → hold_f i o ≡ held → o ≡ file i
hold_inv i free n e = cc
hold_inv i held n e = absurd (n refl)
hold_inv i meta n e = cc
hold_inv i writer n e = cc
hold_inv i outside n e = cc
hold_inv i (file j) n e = go (ℕ_discrete j i) e
  where
    go : (d : Dec (j ≡ i)) → pick d held (file j) ≡ held → file j ≡ file i
    go (yes z) h = ap file z
    go (no z) h = cc

first_cut : {s : Store} {pc : ℕ} {f : File} {l : List ℕ} → FileOk s pc f l → (a : ℕ) → first_of f ≤ a → a < end_of f → Cut s pc (set_first f a) l
first_cut empty a h k = record { part = []; rest = []; ok = empty; is = refl; apart = λ x m k. mem_nil m refl }
first_cut (full u h b c d w) a h' k = let r = walk_shorter a w h' in record { part = r.part; rest = r.rest; ok = full u h b k d r.walk; is = r.is; apart = r.apart }

pub cut_of : {s : Store} {pc : ℕ} {f : File} {l : List ℕ} → FileOk s pc f l → (n : ℕ) → Cut s pc (cut_file f n) l
cut_of {s} {pc} {f} {l} a n = go (dec_le (end_of f) (first_of f + n))
  where
    go : (d : Dec (end_of f ≤ first_of f + n)) → Cut s pc (pick d gone (set_first f (first_of f + n))) l
    go (yes h) = record { part = []; rest = l; ok = empty; is = refl; apart = λ x m k. mem_nil m refl }
    go (no h) = first_cut a (first_of f + n) (omega arith) (omega arith)

pub inv_truncate : {N : ℕ} {s : Store} {b : Base} {c : Now} (i n : ℕ) (v : Inv N s b c) → c.wr ≡ shut → i < 8 →
    (let r : Cut s b.pc (cut_file (c.tab i) n) (v.files i).pages = cut_of (v.files i).ok n in
    Inv N s b (record { tab = set_f c.tab i (cut_file (c.tab i) n); own = keep_only i r.part c.own; dirty = set_d c.dirty i; tx = true; wr = shut }))
inv_truncate {s = s} {b = b} {c = c} i n v e i8 =
    inv_set i (cut_file (c.tab i) n) (keep_only i r.part c.own) v i8 v.mounted (λ p j f z. refl) (λ x. shift x (mem? x r.part))
    (record {
      pages = r.part;
      ok = r.ok;
      mine = λ x m. mine x m (mem? x r.part);
      all = λ x h. all x (mem? x r.part) h;
    })
  where
    r : Cut s b.pc (cut_file (c.tab i) n) (v.files i).pages
    r = cut_of (v.files i).ok n

    w : WriterOk s b.pc c.tab c.own shut
    w = rw e at v.wr_ok

    shift : (x : ℕ) (d : Dec (Mem x r.part)) → Shift i (c.own x) (pick d (c.own x) (hold_f i (c.own x)))
    shift x (yes m) = same (unwritten (c.own x) (w x))
    shift x (no m) = hold_shift i (c.own x) (unwritten (c.own x) (w x))

    mine : (x : ℕ) → Mem x r.part → (d : Dec (Mem x r.part)) → pick d (c.own x) (hold_f i (c.own x)) ≡ file i
    mine x m (yes k) = (v.files i).mine x (rw r.is (mem_left r.rest m))
    mine x m (no k) = absurd (k m)

    all : (x : ℕ) (d : Dec (Mem x r.part)) → pick d (c.own x) (hold_f i (c.own x)) ≡ file i → Mem x r.part
    all x (yes m) h = m
    all x (no m) h = absurd (hold_none i (c.own x) h)

-- truncate holds exactly the rest of the walk
pub truncate_holds : {s : Store} {pc i : ℕ} {f f' : File} {own : ℕ → Owner} (a : FileAt s pc f own i) (r : Cut s pc f' a.pages) (x : ℕ) →
    (Mem x r.rest → keep_only i r.part own x ≡ held) × (keep_only i r.part own x ≡ held → ¬ (own x ≡ held) → Mem x r.rest)
truncate_holds {i = i} {own = own} a r x = ((λ m. to_held m (mem? x r.part)), λ h n. from_held n (mem? x r.part) h)
  where
    to_held : Mem x r.rest → (d : Dec (Mem x r.part)) → pick d (own x) (hold_f i (own x)) ≡ held
    to_held m (yes k) = absurd (r.apart x k m)
    to_held m (no k) = ap (hold_f i) (a.mine x (rw r.is (mem_right r.part m))) ∙ pick_yes (ℕ_discrete i i) refl held (file i)

    from_held : ¬ (own x ≡ held) → (d : Dec (Mem x r.part)) → pick d (own x) (hold_f i (own x)) ≡ held → Mem x r.rest
    from_held n (yes k) h = absurd (n h)
    from_held n (no k) h = mem_off r.part (rw r.is at (a.all x (hold_inv i (own x) n h))) k

reflag : {s : Store} {pc : ℕ} {f : File} {l : List ℕ} (g : ℕ) → FileOk s pc f l → FileOk s pc (set_flags f g) l
reflag g empty = empty
reflag g (full u h b c d w) = full u h b c d w

-- they changed
pub inv_flags : {N : ℕ} {s : Store} {b : Base} {c : Now} (i g : ℕ) → Inv N s b c → c.wr ≡ shut → i < 8 →
    Inv N s b (record { tab = set_f c.tab i (set_flags (c.tab i) g); own = c.own; dirty = set_d c.dirty i; tx = true; wr = shut })
inv_flags {s = s} {b = b} {c = c} i g v e i8 =
    let w : WriterOk s b.pc c.tab c.own shut = rw e at v.wr_ok in
    let a = v.files i in
    inv_set i (set_flags (c.tab i) g) c.own v i8 v.mounted (λ p j f z. refl) (λ x. same (unwritten (c.own x) (w x)))
    (record { pages = a.pages; ok = reflag g a.ok; mine = a.mine; all = a.all })

-- they did not, or the file is empty: a transaction is open all the same
pub inv_touch : {N : ℕ} {s : Store} {b : Base} {c : Now} → Inv N s b c → Inv N s b (record { tab = c.tab; own = c.own; dirty = c.dirty; tx = true; wr = c.wr })
inv_touch v =
    record {
      mounted = v.mounted;
      files = v.files;
      owners = v.owners;
      keep = v.keep;
      undirty = v.undirty;
      closed = λ e. let u : ◌≡◌ {A = ℕ} 0 1 = cc in absurd (omega arith);
      unheld = λ e. let u : ◌≡◌ {A = ℕ} 0 1 = cc in absurd (omega arith);
      above = v.above;
      wr_ok = v.wr_ok;
    }

-- marks may be more than what changed: whether commit clears them is open in document 01, and either way is kept
pub inv_marks : {N : ℕ} {s : Store} {b : Base} {c : Now} (d : ℕ → Bool) → Inv N s b c → ((i : ℕ) → d i ≡ false → c.dirty i ≡ false) →
    Inv N s b (record { tab = c.tab; own = c.own; dirty = d; tx = c.tx; wr = c.wr })
inv_marks d v g =
    record {
      mounted = v.mounted;
      files = v.files;
      owners = v.owners;
      keep = v.keep;
      undirty = λ i h. v.undirty i (g i h);
      closed = v.closed;
      unheld = v.unheld;
      above = v.above;
      wr_ok = v.wr_ok;
    }

swap_left : (i j : ℕ) → swap i j i ≡ j
swap_left i j = pick_yes (ℕ_discrete i i) refl j (pick (ℕ_discrete i j) i i)

swap_right : (i j : ℕ) → swap i j j ≡ i
swap_right i j = go (ℕ_discrete j i)
  where
    go : (d : Dec (j ≡ i)) → pick d j (pick (ℕ_discrete j j) i j) ≡ i
    go (yes e) = e
    go (no n) = pick_yes (ℕ_discrete j j) refl i j

swap_off : (i j k : ℕ) → ¬ (k ≡ i) → ¬ (k ≡ j) → swap i j k ≡ k
swap_off i j k n m = pick_no (ℕ_discrete k i) n j (pick (ℕ_discrete k j) i k) ∙ pick_no (ℕ_discrete k j) m i k

swap_swap : (i j k : ℕ) → swap i j (swap i j k) ≡ k
swap_swap i j k = go (ℕ_discrete k i) (ℕ_discrete k j)
  where
    go : Dec (k ≡ i) → Dec (k ≡ j) → swap i j (swap i j k) ≡ k
    go (yes e) d = rw (ap (swap i j) (ap (swap i j) e ∙ swap_left i j) ∙ swap_right i j) (sym e)
    go (no n) (yes e) = rw (ap (swap i j) (ap (swap i j) e ∙ swap_right i j) ∙ swap_left i j) (sym e)
    go (no n) (no m) = ap (swap i j) (swap_off i j k n m) ∙ swap_off i j k n m

swap_o_file : (i j k : ℕ) (o : Owner) → swap_o i j o ≡ file k → o ≡ file (swap i j k)
swap_o_file i j k free e = cc
swap_o_file i j k held e = cc
swap_o_file i j k meta e = cc
swap_o_file i j k writer e = cc
swap_o_file i j k outside e = cc
swap_o_file i j k (file m) e = let u : swap i j m ≡ k = cc in ap file (sym (swap_swap i j m) ∙ ap (swap i j) u)

-- any owner but a file's is as it was
abbrev NoFile : Owner → Type 0
NoFile free = Unit {0}
NoFile held = Unit {0}
NoFile meta = Unit {0}
NoFile writer = Unit {0}
NoFile outside = Unit {0}
NoFile (file k) = ⊥

swap_o_other : (i j : ℕ) (a o : Owner) → NoFile o → (a ≡ o → swap_o i j a ≡ o) × (swap_o i j a ≡ o → a ≡ o)
swap_o_other i j free o t = (λ h. h, λ h. h)
swap_o_other i j held o t = (λ h. h, λ h. h)
swap_o_other i j meta o t = (λ h. h, λ h. h)
swap_o_other i j writer o t = (λ h. h, λ h. h)
swap_o_other i j outside o t = (λ h. h, λ h. h)
swap_o_other i j (file k) o t = (λ h. absurd (rw (← h) at t), λ h. absurd (rw (← h) at t))

swap_o_kept : (i j : ℕ) (o : Owner) → Kept o → Kept (swap_o i j o)
swap_o_kept i j held k = tt
swap_o_kept i j (file m) k = tt
swap_o_kept i j free k = k
swap_o_kept i j meta k = k
swap_o_kept i j writer k = k
swap_o_kept i j outside k = k

pub inv_rename : {N : ℕ} {s : Store} {b : Base} {c : Now} (i j : ℕ) → Inv N s b c → c.wr ≡ shut → i < 8 → j < 8 →
    Inv N s b (record { tab = λ k. c.tab (swap i j k); own = λ x. swap_o i j (c.own x); dirty = set_d (set_d c.dirty i) j; tx = true; wr = shut })
inv_rename {s = s} {b = b} {c = c} i j v e i8 j8 =
    record {
      mounted = v.mounted;
      files =
          λ k. file_frame (v.files (swap i j k)) (λ p h. refl) (λ p h. ap (swap_o i j) h ∙ ap file (swap_swap i j k)) (λ p h. swap_o_file i j k (c.own p) h);
      owners =
          record {
            meta_at = (other b.mp meta tt).0 v.owners.meta_at;
            meta_only = λ p e. v.owners.meta_only p ((other p meta tt).1 e);
            out_at = λ p h. (other p outside tt).0 (v.owners.out_at p h);
            out_only = λ p e. v.owners.out_only p ((other p outside tt).1 e);
          };
      keep = λ p k h. swap_o_kept i j (c.own p) (v.keep p k h);
      undirty = λ k. undirty k (ℕ_discrete k j) (ℕ_discrete k i);
      closed = λ e. let u : ◌≡◌ {A = ℕ} 0 1 = cc in absurd (omega arith);
      unheld = λ e. let u : ◌≡◌ {A = ℕ} 0 1 = cc in absurd (omega arith);
      above = λ k h. ap c.tab (swap_off i j k (omega arith) (omega arith)) ∙ v.above k h;
      wr_ok = λ p h. w p ((other p writer tt).1 h);
    }
  where
    w : WriterOk s b.pc c.tab c.own shut
    w = rw e at v.wr_ok

    other : (p : ℕ) (o : Owner) → NoFile o → (c.own p ≡ o → swap_o i j (c.own p) ≡ o) × (swap_o i j (c.own p) ≡ o → c.own p ≡ o)
    other p o t = swap_o_other i j (c.own p) o t

    undirty : (k : ℕ) (d : Dec (k ≡ j)) (d' : Dec (k ≡ i)) → pick d true (pick d' true (c.dirty k)) ≡ false → c.tab (swap i j k) ≡ b.tab k
    undirty k (yes e) d' h = cc
    undirty k (no n) (yes e) h = cc
    undirty k (no n) (no m) h = ap c.tab (swap_off i j k m n) ∙ v.undirty k h

pub inv_mount : {N : ℕ} {s : Store} {b : Base} → Mounted N s b → Inv N s b (fresh b)
inv_mount m =
    record {
      mounted = m;
      files = m.files;
      owners = m.owners;
      keep = λ p i e. rw e tt;
      undirty = λ i h. refl;
      closed = λ e i. refl;
      unheld = λ e. m.unheld;
      above = m.above;
      wr_ok = m.unwritten;
    }
