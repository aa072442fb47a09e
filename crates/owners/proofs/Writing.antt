-- The writer's calls keep the invariant: open, stage a page, go on to the next, finish, discard. Assumes nothing.
use Prim.Native.Nat.{ℕ, suc, ◌+◌, ◌≤◌, ◌<◌}
use mathlib.Core.Path.{◌≡◌, refl, sym, ap, ◌∙◌}
use mathlib.Core.Bool.{true}
use mathlib.Core.Logic.{◌⊎◌, inl, inr}
use mathlib.Core.List.{List, [], ◌∷◌}
use native.Mathlib.Omega.{arith}
use native.Mathlib.Decide.{ℕ_discrete, dec_le}
use Rattle.owners.specs.Moves.{Change, give, dropped, mem_nil, mem_tail, set_f, set_d, with_wr, with_own}
use Rattle.owners.specs.State.{Owners, Base, shut, ready, staging, Now, first_of, last_of, end_of, flags_of, Back, end, more, attach, finished, CopiedOk, next_step, Run, done, on, StagedOk, WriterOk, Inv}
use Rattle.owners.specs.Store.{Link, nil, to, Page, dat, Store, pick, File, live, limit, Len, Owner, free, held, meta, writer, outside, file, Mem, here, there, Walk, stop, root, step, FileOk, empty, full, FileAt}
use Rattle.owners.proofs.Frames.{mounted_change, loose_writer}
use Rattle.owners.proofs.Owned.{give_at, give_off, take_same, drop_same, drop_unwritten, inv_write, Shift, same, hold, gain, inv_set}
use Rattle.owners.proofs.Walks.{walk_head, walk_frame, walk_fresh}

-- a page that is not past page_count
pub inside : {pc mp p : ℕ} {own : ℕ → Owner} → Owners pc mp own → (own p ≡ outside → ⊥) → p < pc
inside {pc} {mp} {p} o n = go (dec_le pc p)
  where
    go : Dec (pc ≤ p) → p < pc
    go (yes h) = absurd (n (o.out_at p h))
    go (no h) = omega arith

-- what is behind a new page
back_frame : {s s' : Store} {pc first q : ℕ} {k : Link} {l : List ℕ} → Back s pc first k q l → ((x : ℕ) → Mem x l → s' x ≡ s x) → Back s' pc first k q l
back_frame end g = end
back_frame (more a b h c w) g = more a b (g _ (walk_head w) ∙ h) c (walk_frame w g)

back_walk : {s : Store} {pc first p q n : ℕ} {x : List ℕ} {k : Link} {l : List ℕ} → Back s pc first k q l → s p ≡ dat q n k x → Walk s pc first p (p ∷ l)
back_walk {s} {pc} {first} {p} {q} end h = go (dec_le q first)
  where
    go : Dec (q ≤ first) → Walk s pc first p (p ∷ [])
    go (yes a) = stop h a
    go (no a) = root h (omega arith)
back_walk (more a b h c w) h' = step h' a b h c w

back_keep : {s : Store} {pc : ℕ} {f : File} {l : List ℕ} → FileOk s pc f l → Back s pc (first_of f) (last_of f) (end_of f) l
back_keep empty = end
back_keep (full a h b c d w) = more c a h (omega arith) w

first_end : {s : Store} {pc : ℕ} {f : File} {l : List ℕ} → FileOk s pc f l → (n : ℕ) → Len n → first_of f < end_of f + n
first_end empty n h = omega arith
first_end (full a h b c d w) n k = omega arith

record Behind (s : Store) (pc first p q : ℕ) (prev : Link) (l : List ℕ) : Type 0 where
  pub rest : List ℕ
  pub back : Back s pc first prev q rest
  pub is : l ≡ p ∷ rest
  pub fresh : Mem p rest → ⊥

back_copy : {s : Store} {pc first p q n : ℕ} {x : List ℕ} {k : Link} {l : List ℕ} → Walk s pc first p l → s p ≡ dat q n k x → Behind s pc first p q (next_step first q k) l
back_copy {s} {pc} {first} {p} {q} {n} {x} {k} (stop {q = r} h a) e = go (dec_le q first)
  where
    z : r ≡ q
    z = cc

    go : (d : Dec (q ≤ first)) → Behind s pc first p q (pick d nil k) (p ∷ [])
    go (yes b) = record { rest = []; back = end; is = refl; fresh = λ m. mem_nil m refl }
    go (no b) = absurd (omega (arith, z))
back_copy {s} {pc} {first} {p} {q} {n} {x} {k} (root {q = r} h a) e = go (dec_le q first)
  where
    z : k ≡ nil
    z = cc

    go : (d : Dec (q ≤ first)) → Behind s pc first p q (pick d nil k) (p ∷ [])
    go (yes b) = record { rest = []; back = end; is = refl; fresh = λ m. mem_nil m refl }
    go (no b) = record { rest = []; back = rw z end; is = refl; fresh = λ m. mem_nil m refl }
back_copy {s} {pc} {first} {p} {q} {n} {x} {k} (step {q = r} {p' = p'} {l = l} h a b h' c w) e = go (dec_le q first)
  where
    z : r ≡ q
    z = cc

    y : k ≡ to p'
    y = cc

    go : (d : Dec (q ≤ first)) → Behind s pc first p q (pick d nil k) (p ∷ l)
    go (yes b) = absurd (omega (arith, z))
    go (no d) = record { rest = l; back = rw y (more {q = q} (omega arith) b h' (omega (arith, z)) w); is = refl; fresh = walk_fresh h h' c w }

-- attaching
pub attach_inv : (i : ℕ) (o : Owner) → attach i o ≡ file i → (o ≡ writer) ⊎ (o ≡ file i)
attach_inv i free e = inr e
attach_inv i held e = inr e
attach_inv i meta e = inr e
attach_inv i writer e = inl refl
attach_inv i outside e = inr e
attach_inv i (file j) e = inr e

attach_shift : (i : ℕ) (o : Owner) → Shift i o (attach i o)
attach_shift i free = same tt
attach_shift i held = same tt
attach_shift i meta = same tt
attach_shift i writer = gain
attach_shift i outside = same tt
attach_shift i (file j) = same tt

pub finished_shift : (i : ℕ) (k : Link) (own : ℕ → Owner) → CopiedOk i own k → (x : ℕ) → Shift i (own x) (finished i k own x)
finished_shift i nil own h x = attach_shift i (own x)
finished_shift i (to c) own h x = go (ℕ_discrete x c)
  where
    go : (d : Dec (x ≡ c)) → Shift i (own x) (pick d held (attach i (own x)))
    go (yes e) = rw (ap own e ∙ h) hold
    go (no n) = attach_shift i (own x)

-- a page given to the writer joins what the finish will attach, and nothing else does
module _ (i : ℕ) (own : ℕ → Owner) (p : ℕ) (e : own p ≡ free) where
  finished_here : (k : Link) → CopiedOk i own k → finished i k (give own p writer) p ≡ file i
  finished_here nil h = ap (attach i) (give_at own p writer)
  finished_here (to c) h = go (ℕ_discrete p c)
    where
      go : (d : Dec (p ≡ c)) → pick d held (attach i (give own p writer p)) ≡ file i
      go (yes z) = let u : free ≡ file i = sym e ∙ ap own z ∙ h in cc
      go (no n) = ap (attach i) (give_at own p writer)

  finished_there : (k : Link) (x : ℕ) → ¬ (x ≡ p) → finished i k (give own p writer) x ≡ finished i k own x
  finished_there nil x n = ap (attach i) (give_off own p writer x n)
  finished_there (to c) x n = ap (λ (o : Owner). pick (ℕ_discrete x c) held (attach i o)) (give_off own p writer x n)

  -- so: a chain of what the finish would attach, with the new page before it
  joined_mine : (k : Link) (l : List ℕ) → CopiedOk i own k → ((x : ℕ) → Mem x l → finished i k own x ≡ file i) →
      (x : ℕ) → Mem x (p ∷ l) → finished i k (give own p writer) x ≡ file i
  joined_mine k l h g x here = finished_here k h
  joined_mine k l h g x (there m) = go (ℕ_discrete x p)
    where
      go : Dec (x ≡ p) → finished i k (give own p writer) x ≡ file i
      go (yes z) = rw z (finished_here k h)
      go (no n) = finished_there k x n ∙ g x m

  joined_all : (k : Link) (l : List ℕ) → ((x : ℕ) → finished i k own x ≡ file i → Mem x l) →
      (x : ℕ) → finished i k (give own p writer) x ≡ file i → Mem x (p ∷ l)
  joined_all k l g x h = go (ℕ_discrete x p)
    where
      go : Dec (x ≡ p) → Mem x (p ∷ l)
      go (yes z) = rw z here
      go (no n) = there (g x (sym (finished_there k x n) ∙ h))

  given_copy : (k : Link) → CopiedOk i own k → CopiedOk i (give own p writer) k
  given_copy nil h = tt
  given_copy (to c) h = (take_same own p e c (file i) tt).0 h

-- what a finish attaches where nothing is the writer's
idle_mine : (i : ℕ) (own : ℕ → Owner) (x : ℕ) → own x ≡ file i → finished i nil own x ≡ file i
idle_mine i own x e = ap (attach i) e

idle_all : (i : ℕ) (own : ℕ → Owner) → ((p : ℕ) → own p ≡ writer → ⊥) → (x : ℕ) → finished i nil own x ≡ file i → own x ≡ file i
idle_all i own n x e = go (attach_inv i (own x) e)
  where
    go : (own x ≡ writer) ⊎ (own x ≡ file i) → own x ≡ file i
    go (inl h) = absurd (n x h)
    go (inr h) = h

-- the writer's pages depend on nothing else
pub run_frame : {s s' : Store} {pc q : ℕ} {k : Link} {l : List ℕ} → Run s pc k q l → ((x : ℕ) → Mem x l → s' x ≡ s x) → Run s' pc k q l
run_frame done g = done
run_frame (on a h b r) g = on a (g _ here ∙ h) b (run_frame r (λ x m. g x (there m)))

one_written : (own : ℕ → Owner) (p x : ℕ) → Mem x (p ∷ []) → give own p writer x ≡ writer
one_written own p x here = give_at own p writer
one_written own p x (there x4) = elim x4 [ ]

given_written : (own : ℕ → Owner) (p : ℕ) (l : List ℕ) → ((x : ℕ) → own x ≡ writer → Mem x l) → (x : ℕ) → give own p writer x ≡ writer → Mem x (p ∷ l)
given_written own p l n x h = go (ℕ_discrete x p)
  where
    go : Dec (x ≡ p) → Mem x (p ∷ l)
    go (yes e) = rw e here
    go (no m) = there (n x (sym (give_off own p writer x m) ∙ h))

more_written : (own : ℕ → Owner) (p : ℕ) (l : List ℕ) → ((x : ℕ) → Mem x l → own x ≡ writer) → (x : ℕ) → Mem x (p ∷ l) → give own p writer x ≡ writer
more_written own p l n x here = give_at own p writer
more_written own p l n x (there m) = go (ℕ_discrete x p)
  where
    go : Dec (x ≡ p) → give own p writer x ≡ writer
    go (yes e) = ap (give own p writer) e ∙ give_at own p writer
    go (no k) = give_off own p writer x k ∙ n x m

-- opening a writer that keeps the last page
pub inv_open : {N : ℕ} {s : Store} {b : Base} {c : Now} (i : ℕ) → Inv N s b c → c.wr ≡ shut → i < 8 → Inv N s b (with_wr c (ready i))
inv_open {s = s} {b = b} {c = c} i v e i8 =
    let w : WriterOk s b.pc c.tab c.own shut = rw e at v.wr_ok in
    inv_write c.own (ready i) v v.mounted (λ p j h. refl) (λ x o t. (λ h. h, λ h. h)) (i8, w)

-- the first page staged of a writer that keeps the last page
pub inv_stage : {N : ℕ} {s : Store} {b : Base} {c : Now} (i p n : ℕ) → Inv N s b c → c.wr ≡ ready i → c.own p ≡ free → Len n → end_of (c.tab i) + n ≤ limit →
    Inv N s b (with_own c (give c.own p writer) (staging i (last_of (c.tab i)) (end_of (c.tab i)) p n nil 0))
inv_stage {s = s} {b = b} {c = c} i p n v e f n1 h =
    let w : WriterOk s b.pc c.tab c.own (ready i) = rw e at v.wr_ok in
    let a = v.files i in
    let g = take_same c.own p f in
    inv_write (give c.own p writer) (staging i (last_of (c.tab i)) (end_of (c.tab i)) p n nil 0) v v.mounted (λ p j h. refl) g
    (record {
      below = w.0;
      rest = a.pages;
      back = back_keep a.ok;
      long = n1;
      first_lt = first_end a.ok n n1;
      fits = h;
      staged = give_at c.own p writer;
      fresh = λ m. let u : free ≡ file i = sym f ∙ a.mine p m in let u : ◌≡◌ {A = ℕ} 0 1 = cc in omega arith;
      copy = tt;
      new = [];
      many = refl;
      new_fresh = λ m. mem_nil m refl;
      run = done;
      written = one_written c.own p;
      all_written = given_written c.own p [] (λ x z. absurd (w.1 x z));
      mine = joined_mine i c.own p f nil a.pages tt (λ x m. idle_mine i c.own x (a.mine x m));
      all = joined_all i c.own p f nil a.pages (λ x z. a.all x (idle_all i c.own w.1 x z));
    })

record Copy (s : Store) (pc first l q n : ℕ) (k : Link) (pages : List ℕ) : Type 0 where
  pub behind : Behind s pc first l q (next_step first q k) pages
  pub long : Len n
  pub first_lt : first < q + n
  pub fits : q + n ≤ limit

copy_of : {s : Store} {pc l q n : ℕ} {x : List ℕ} {k : Link} {f : File} {pages : List ℕ} → FileOk s pc f pages → last_of f ≡ to l → s l ≡ dat q n k x → Copy s pc (first_of f) l q n k pages
copy_of empty e h = let u : ◌≡◌ {A = ℕ} 0 1 = cc in absurd (omega arith)
copy_of {s} {pc} {l} {q} {n} {x} {k} {pages = pages} (full {p = p} {q = r} {n = m} a h' b c d w) e h =
    let z : p ≡ l = cc in
    let y : r ≡ q = cc in
    let v : m ≡ n = cc in
    record { behind = back_copy (rw z at w) h; long = omega arith; first_lt = omega arith; fits = omega arith }

pub mem_is : {x : ℕ} {l l' : List ℕ} → l ≡ l' → Mem x l → Mem x l'
mem_is e m = rw e at m

-- opening a writer that copies the last page
pub inv_copy : {N : ℕ} {s : Store} {b : Base} {c : Now} (i p l q n : ℕ) (x : List ℕ) (k : Link) → Inv N s b c → c.wr ≡ shut → i < 8 → last_of (c.tab i) ≡ to l → s l ≡ dat q n k x → c.own p ≡ free →
    Inv N s b (with_own c (give c.own p writer) (staging i (next_step (first_of (c.tab i)) q k) q p n (to l) 0))
inv_copy {s = s} {b = b} {c = c} i p l q n x k v e i8 z h f =
    inv_write (give c.own p writer) (staging i (next_step (first_of (c.tab i)) q k) q p n (to l) 0) v v.mounted (λ p j h. refl) (take_same c.own p f)
    (record {
      below = i8;
      rest = r;
      back = y.behind.back;
      long = y.long;
      first_lt = y.first_lt;
      fits = y.fits;
      staged = give_at c.own p writer;
      fresh = λ m. let u : free ≡ file i = sym f ∙ own_rest p m in let u : ◌≡◌ {A = ℕ} 0 1 = cc in omega arith;
      copy = given_copy i c.own p f (to l) own_l;
      new = [];
      many = refl;
      new_fresh = λ m. mem_nil m refl;
      run = done;
      written = one_written c.own p;
      all_written = given_written c.own p [] (λ x z. absurd (w x z));
      mine = joined_mine i c.own p f (to l) r own_l (λ x m. mine x m (ℕ_discrete x l));
      all = joined_all i c.own p f (to l) r (λ x z. all x (ℕ_discrete x l) z);
    })
  where
    w : WriterOk s b.pc c.tab c.own shut
    w = rw e at v.wr_ok

    a : FileAt s b.pc (c.tab i) c.own i
    a = v.files i

    y : Copy s b.pc (first_of (c.tab i)) l q n k a.pages
    y = copy_of a.ok z h

    r : List ℕ
    r = y.behind.rest

    own_rest : (x : ℕ) → Mem x r → c.own x ≡ file i
    own_rest x m = a.mine x (mem_is (sym y.behind.is) (there m))

    own_l : c.own l ≡ file i
    own_l = a.mine l (mem_is (sym y.behind.is) here)

    mine : (x : ℕ) → Mem x r → (d : Dec (x ≡ l)) → pick d held (attach i (c.own x)) ≡ file i
    mine x m (yes z) = absurd (y.behind.fresh (rw z at m))
    mine x m (no z) = ap (attach i) (own_rest x m)

    all : (x : ℕ) (d : Dec (x ≡ l)) → pick d held (attach i (c.own x)) ≡ file i → Mem x r
    all x (yes z) h = let u : ◌≡◌ {A = ℕ} 0 1 = cc in absurd (omega arith)
    all x (no z) h = mem_tail (mem_is y.behind.is (a.all x (idle_all i c.own w x h))) z

-- more bytes into the staged page
pub inv_grow : {N : ℕ} {s : Store} {b : Base} {c : Now} {i q p n t : ℕ} {prev k : Link} (m : ℕ) → Inv N s b c → c.wr ≡ staging i prev q p n k t → n ≤ m → m ≤ 224 → q + m ≤ limit →
    Inv N s b (with_wr c (staging i prev q p m k t))
inv_grow {s = s} {b = b} {c = c} {i} {q} {p} {n} {t} {prev} {k} m v e h a f =
    let w : StagedOk s b.pc c.tab c.own i prev q p n k t = rw e at v.wr_ok in
    inv_write c.own (staging i prev q p m k t) v v.mounted (λ p j h. refl) (λ x o t. (λ h. h, λ h. h))
    (record {
      below = w.below;
      rest = w.rest;
      back = w.back;
      long = (omega (arith, w.long), a);
      first_lt = omega (arith, w.first_lt);
      fits = f;
      staged = w.staged;
      fresh = w.fresh;
      copy = w.copy;
      new = w.new;
      many = w.many;
      new_fresh = w.new_fresh;
      run = w.run;
      written = w.written;
      all_written = w.all_written;
      mine = w.mine;
      all = w.all;
    })

-- the staged page is stored: the chain that a finish would attach stands
record Stored (s' : Store) (pc : ℕ) (tab : ℕ → File) (own : ℕ → Owner) (i q p n : ℕ) (k : Link) : Type 0 where
  pub pages : List ℕ
  pub walk : Walk s' pc (first_of (tab i)) p pages
  pub mine : (x : ℕ) → Mem x pages → finished i k own x ≡ file i
  pub all : (x : ℕ) → finished i k own x ≡ file i → Mem x pages

stored : {s s' : Store} {pc : ℕ} {tab : ℕ → File} {own : ℕ → Owner} {i q p n t : ℕ} {x : List ℕ} {prev k : Link} →
    StagedOk s pc tab own i prev q p n k t → Change s s' p (dat q n prev x) → Stored s' pc tab own i q p n k
stored {p = p} w h =
    record {
      pages = p ∷ w.rest;
      walk = back_walk (back_frame w.back (λ x m. h.off x (λ (z : x ≡ p). w.fresh (rw z at m)))) h.at;
      mine = w.mine;
      all = w.all;
    }

-- where the writer's staged page is stored, the files' pages are as they were
off_staged : {s s' : Store} {p : ℕ} {x : Page} (own : ℕ → Owner) → Change s s' p x → own p ≡ writer → (y j : ℕ) → own y ≡ file j → s' y ≡ s y
off_staged {p = p} own h e y j f = h.off y (λ (z : y ≡ p). let u : writer ≡ file j = sym e ∙ ap own (sym z) ∙ f in let u : ◌≡◌ {A = ℕ} 0 1 = cc in omega arith)

shift_free : {i : ℕ} {a a' : Owner} → Shift i a a' → a ≡ free → a' ≡ file i → ⊥
shift_free (same n) e f = let u : ◌≡◌ {A = ℕ} 0 1 = cc in omega arith
shift_free hold e f = let u : ◌≡◌ {A = ℕ} 0 1 = cc in omega arith
shift_free gain e f = let u : ◌≡◌ {A = ℕ} 0 1 = cc in omega arith

-- the staged page is stored and the next one is staged
pub inv_next : {N : ℕ} {s s' : Store} {b : Base} {c : Now} {i q p n t : ℕ} {x : List ℕ} {prev k : Link} (p₂ n₂ : ℕ) → Inv N s b c → c.wr ≡ staging i prev q p n k t → Change s s' p (dat q n prev x) →
    c.own p₂ ≡ free → Len n₂ → q + n + n₂ ≤ limit →
    Inv N s' b (with_own c (give c.own p₂ writer) (staging i (to p) (q + n) p₂ n₂ k (suc t)))
inv_next {s = s} {s' = s'} {b = b} {c = c} {i} {q} {p} {n} {t} {x} {prev} {k} p₂ n₂ v e h f n1 lim =
    let w : StagedOk s b.pc c.tab c.own i prev q p n k t = rw e at v.wr_ok in
    let d : Stored s' b.pc c.tab c.own i q p n k = stored w h in
    inv_write (give c.own p₂ writer) (staging i (to p) (q + n) p₂ n₂ k (suc t)) v
    (mounted_change h tt (loose_writer v w.staged) v.mounted) (off_staged c.own h w.staged) (take_same c.own p₂ f)
    (record {
      below = w.below;
      rest = d.pages;
      back = more w.first_lt (inside v.owners (λ z. let u : ◌≡◌ {A = ℕ} 0 1 = cc w.staged in omega arith)) h.at (omega (arith, w.long)) d.walk;
      long = n1;
      first_lt = omega (arith, w.first_lt);
      fits = lim;
      staged = give_at c.own p₂ writer;
      fresh = λ m. shift_free (finished_shift i k c.own w.copy p₂) f (d.mine p₂ m);
      copy = given_copy i c.own p₂ f k w.copy;
      new = p ∷ w.new;
      many = ap suc w.many;
      new_fresh = λ m. let u : free ≡ writer = sym f ∙ w.written p₂ m in let u : ◌≡◌ {A = ℕ} 0 1 = cc in omega arith;
      run =
          on (inside v.owners (λ z. let u : ◌≡◌ {A = ℕ} 0 1 = cc w.staged in omega arith)) h.at (omega (arith, w.long))
          (run_frame w.run (λ x m. h.off x (λ (z : x ≡ p). w.new_fresh (rw z at m))));
      written = more_written c.own p₂ (p ∷ w.new) w.written;
      all_written = given_written c.own p₂ (p ∷ w.new) w.all_written;
      mine = joined_mine i c.own p₂ f k d.pages w.copy d.mine;
      all = joined_all i c.own p₂ f k d.pages d.all;
    })

-- finishing with a page staged
pub inv_finish : {N : ℕ} {s s' : Store} {b : Base} {c : Now} {i q p n t : ℕ} {x : List ℕ} {prev k : Link} → Inv N s b c → c.wr ≡ staging i prev q p n k t → Change s s' p (dat q n prev x) →
    Inv N s' b (record { tab = set_f c.tab i (live p (first_of (c.tab i)) (q + n) (flags_of (c.tab i))); own = finished i k c.own; dirty = set_d c.dirty i; tx = true; wr = shut })
inv_finish {s = s} {s' = s'} {b = b} {c = c} {i} {q} {p} {n} {t} {x} {prev} {k} v e h =
    let w : StagedOk s b.pc c.tab c.own i prev q p n k t = rw e at v.wr_ok in
    let d : Stored s' b.pc c.tab c.own i q p n k = stored w h in
    inv_set i (live p (first_of (c.tab i)) (q + n) (flags_of (c.tab i))) (finished i k c.own) v w.below
    (mounted_change h tt (loose_writer v w.staged) v.mounted) (λ y j f z. off_staged c.own h w.staged y j f)
    (finished_shift i k c.own w.copy)
    (record {
      pages = d.pages;
      ok = full (inside v.owners (λ z. let u : ◌≡◌ {A = ℕ} 0 1 = cc w.staged in omega arith)) h.at w.long w.first_lt w.fits d.walk;
      mine = d.mine;
      all = d.all;
    })

-- finishing with none staged
pub inv_finish_none : {N : ℕ} {s : Store} {b : Base} {c : Now} {i : ℕ} → Inv N s b c → c.wr ≡ ready i → Inv N s b (with_wr c shut)
inv_finish_none {s = s} {b = b} {c = c} {i = i} v e =
    let w : WriterOk s b.pc c.tab c.own (ready i) = rw e at v.wr_ok in
    inv_write c.own shut v v.mounted (λ p j h. refl) (λ x o t. (λ h. h, λ h. h)) w.1

-- discarding
pub inv_discard : {N : ℕ} {s : Store} {b : Base} {c : Now} → Inv N s b c → Inv N s b (with_own c (λ x. dropped (c.own x)) shut)
inv_discard {c = c} v = inv_write (λ x. dropped (c.own x)) shut v v.mounted (λ p j h. refl) (drop_same c.own) (λ p. drop_unwritten (c.own p))
