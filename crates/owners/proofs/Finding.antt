-- Mounting file after file: the table and the owners so far, and what is found in the end. Assumes nothing.
use Prim.Native.Nat.{ℕ, suc, ◌≤◌, ◌<◌}
use mathlib.Core.Path.{◌≡◌, refl, sym, ap, ◌∙◌}
use mathlib.Core.Bool.{true}
use mathlib.Core.Logic.{◌⊎◌, inl, inr}
use mathlib.Core.List.{List, []}
use native.Mathlib.Omega.{arith}
use native.Mathlib.Decide.{ℕ_discrete, dec_le}
use Rattle.metalog.specs.Log.{Replay}
use Rattle.owners.specs.Moves.{mem_nil, mem?, assign, start_own, set_f}
use Rattle.owners.specs.State.{Val, none, val_in, val_of, Best, Owners, Base, Mounted}
use Rattle.owners.specs.Store.{met, Store, pick, File, gone, Owner, free, held, meta, writer, outside, file, Mem, FileOk, empty, full, FileAt}
use Rattle.owners.proofs.Tables.{pick_yes, pick_no}
use Rattle.owners.proofs.Walks.{file_frame, walk_one}

pub clash : {A : Type 0} → ◌≡◌ {A = ℕ} 0 1 → A
clash e = absurd (omega arith)

-- ---- owners

unfoldable pub free? : (o : Owner) → Dec (o ≡ free)
free? free = yes refl
free? held = no (λ e. clash cc)
free? meta = no (λ e. clash cc)
free? writer = no (λ e. clash cc)
free? outside = no (λ e. clash cc)
free? (file i) = no (λ e. clash cc)

abbrev pub AllFree : (ℕ → Owner) → List ℕ → Type 0
AllFree own l = (x : ℕ) → Mem x l → own x ≡ free

-- ---- the files so far

pub record Part : Type 0 where
  pub tab : ℕ → File
  pub own : ℕ → Owner

abbrev pub taken : Part → ℕ → File → List ℕ → Part
taken P i f l = record { tab = set_f P.tab i f; own = assign P.own l (file i) }

-- what stands after files below i
pub record Upto (s : Store) (pc mp : ℕ) (v : ℕ → Val) (i : ℕ) (P : Part) : Type 0 where
  pub files : (j : ℕ) → FileAt s pc (P.tab j) P.own j
  pub vals : (j : ℕ) → j < i → val_of (P.tab j) ≡ v j
  pub later : (j : ℕ) → i ≤ j → P.tab j ≡ gone
  pub owners : Owners pc mp P.own
  pub unheld : (p : ℕ) → P.own p ≡ held → ⊥
  pub unwritten : (p : ℕ) → P.own p ≡ writer → ⊥

-- an owner that assigning free pages to file i leaves as it is
abbrev Still : ℕ → Owner → Type 0
Still i free = ⊥
Still i held = Unit {0}
Still i meta = Unit {0}
Still i writer = Unit {0}
Still i outside = Unit {0}
Still i (file j) = ¬ (j ≡ i)

assign_still : (own : ℕ → Owner) (l : List ℕ) (i : ℕ) → AllFree own l → (x : ℕ) (o : Owner) → Still i o → (own x ≡ o → assign own l (file i) x ≡ o) × (assign own l (file i) x ≡ o → own x ≡ o)
assign_still own l i g x o t = go (mem? x l)
  where
    go : (d : Dec (Mem x l)) → (own x ≡ o → pick d (file i) (own x) ≡ o) × (pick d (file i) (own x) ≡ o → own x ≡ o)
    go (yes m) = (λ h. absurd (rw (← (sym (g x m) ∙ h)) at t), λ h. absurd ((rw (← h) at t) refl))
    go (no n) = (λ h. h, λ h. h)

gone_pages : {s : Store} {pc x : ℕ} {f : File} {l : List ℕ} → FileOk s pc f l → f ≡ gone → Mem x l → ⊥
gone_pages empty e m = mem_nil m refl
gone_pages (full a h b c d w) e m = clash cc

-- one file more
pub upto_none : {s : Store} {pc mp : ℕ} {v : ℕ → Val} {i : ℕ} {P : Part} → Upto s pc mp v i P → v i ≡ none → Upto s pc mp v (suc i) P
upto_none {s} {pc} {mp} {v} {i} {P} u e =
    record {
      files = u.files;
      vals = λ j h. go j h (ℕ_discrete j i);
      later = λ j h. u.later j (omega arith);
      owners = u.owners;
      unheld = u.unheld;
      unwritten = u.unwritten;
    }
  where
    go : (j : ℕ) → j < suc i → Dec (j ≡ i) → val_of (P.tab j) ≡ v j
    go j h (yes z) = ap val_of (u.later j (omega arith)) ∙ sym (ap v z ∙ e)
    go j h (no n) = u.vals j (omega arith)

pub upto_live : {s : Store} {pc mp : ℕ} {v : ℕ → Val} {i : ℕ} {P : Part} (f : File) (l : List ℕ) → Upto s pc mp v i P → v i ≡ val_of f → FileOk s pc f l → AllFree P.own l → Upto s pc mp v (suc i) (taken P i f l)
upto_live {s} {pc} {mp} {v} {i} {P} f l u e k g =
    record {
      files = λ j. files j (ℕ_discrete j i);
      vals = λ j h. vals j h (ℕ_discrete j i);
      later = λ j h. pick_no (ℕ_discrete j i) (omega arith) f (P.tab j) ∙ u.later j (omega arith);
      owners =
          record {
            meta_at = (still mp meta tt).0 u.owners.meta_at;
            meta_only = λ x h. u.owners.meta_only x ((still x meta tt).1 h);
            out_at = λ x h. (still x outside tt).0 (u.owners.out_at x h);
            out_only = λ x h. u.owners.out_only x ((still x outside tt).1 h);
          };
      unheld = λ x h. u.unheld x ((still x held tt).1 h);
      unwritten = λ x h. u.unwritten x ((still x writer tt).1 h);
    }
  where
    still : (x : ℕ) (o : Owner) → Still i o → (P.own x ≡ o → assign P.own l (file i) x ≡ o) × (assign P.own l (file i) x ≡ o → P.own x ≡ o)
    still = assign_still P.own l i g

    all : (x : ℕ) (d : Dec (Mem x l)) → pick d (file i) (P.own x) ≡ file i → Mem x l
    all x (yes m) h = m
    all x (no n) h = absurd (gone_pages (u.files i).ok (u.later i (omega arith)) ((u.files i).all x h))

    files : (j : ℕ) (d : Dec (j ≡ i)) → FileAt s pc (pick d f (P.tab j)) (assign P.own l (file i)) j
    files j (yes z) = rw z (record { pages = l; ok = k; mine = λ x m. pick_yes (mem? x l) m (file i) (P.own x); all = λ x h. all x (mem? x l) h })
    files j (no n) = file_frame (u.files j) (λ p h. refl) (λ x. (still x (file j) n).0) (λ x. (still x (file j) n).1)

    vals : (j : ℕ) → j < suc i → (d : Dec (j ≡ i)) → val_of (pick d f (P.tab j)) ≡ v j
    vals j h (yes z) = sym (ap v z ∙ e)
    vals j h (no n) = u.vals j (omega arith)

abbrev pub start_part : ℕ → ℕ → Part
start_part pc mp = record { tab = λ i. gone; own = start_own pc mp }

abbrev pub base_of : Store → ℕ → ℕ → ℕ → Part → Base
base_of s mp q pc P = record { mp = mp; mseq = q; pc = pc; tab = P.tab; own = P.own; cont = s }

module _ (pc mp : ℕ) (mp_in : mp < pc) where
  pub start_cases : (x : ℕ) (T : Owner → Type 0) → (x ≡ mp → T meta) → (¬ (x ≡ mp) → pc ≤ x → T outside) → (¬ (x ≡ mp) → x < pc → T free) → T (start_own pc mp x)
  start_cases x T f g h = go (ℕ_discrete x mp) (dec_le pc x)
    where
      go : (d : Dec (x ≡ mp)) (d' : Dec (pc ≤ x)) → T (pick d meta (pick d' outside free))
      go (yes z) d' = f z
      go (no n) (yes y) = g n y
      go (no n) (no y) = h n (omega arith)

  start_no : (x : ℕ) (o : Owner) → ¬ (meta ≡ o) → ¬ (outside ≡ o) → ¬ (free ≡ o) → start_own pc mp x ≡ o → ⊥
  start_no x o a b c = start_cases x (λ y. y ≡ o → ⊥) (λ z. a) (λ n z. b) (λ n z. c)

  pub start_upto : (s : Store) (v : ℕ → Val) → Upto s pc mp v 0 (start_part pc mp)
  start_upto s v =
      record {
        files =
            λ j. record {
              pages = [];
              ok = empty;
              mine = λ p m. absurd (mem_nil m refl);
              all = λ p h. absurd (start_no p (file j) (λ e. clash cc) (λ e. clash cc) (λ e. clash cc) h);
            };
        vals = λ j h. absurd (omega arith);
        later = λ j h. refl;
        owners =
            record {
              meta_at = start_cases mp (λ o. o ≡ meta) (λ z. refl) (λ n z. absurd (n refl)) (λ n z. absurd (n refl));
              meta_only = λ x. start_cases x (λ o. o ≡ meta → x ≡ mp) (λ z h. z) (λ n z h. cc) (λ n z h. cc);
              out_at = λ x h. start_cases x (λ o. o ≡ outside) (λ z. absurd (omega arith)) (λ n z. refl) (λ n z. absurd (omega arith));
              out_only = λ x. start_cases x (λ o. o ≡ outside → pc ≤ x) (λ z h. clash cc) (λ n z h. z) (λ n z h. clash cc);
            };
        unheld = λ x. start_no x held (λ e. clash cc) (λ e. clash cc) (λ e. clash cc);
        unwritten = λ x. start_no x writer (λ e. clash cc) (λ e. clash cc) (λ e. clash cc);
      }

-- all eight: mount finds them
pub upto_mounted : {s : Store} {N mp q pc : ℕ} {log : Replay} {P : Part} → s mp ≡ met q pc log → 0 < q → mp < pc → pc ≤ N → Best s N mp q → log.ok ≡ true →
    Upto s pc mp (val_in log.files) 8 P → Mounted N s (base_of s mp q pc P)
upto_mounted {log = log} e pos mp_in pc_in best ok u =
    record {
      log = log;
      page = e;
      pos = pos;
      mp_in = mp_in;
      pc_in = pc_in;
      best = best;
      log_ok = ok;
      vals = u.vals;
      above = u.later;
      files = u.files;
      same = λ p i e. refl;
      owners = u.owners;
      unheld = u.unheld;
      unwritten = u.unwritten;
    }

-- ---- all that `Mounted` says is found: the owners on the way are those of b, for files below i

abbrev pub Low : ℕ → Owner → Type 0
Low i free = Unit {0}
Low i held = Unit {0}
Low i meta = Unit {0}
Low i writer = Unit {0}
Low i outside = Unit {0}
Low i (file j) = j < i

pub low_more : (i : ℕ) (o : Owner) → Low i o → Low (suc i) o
low_more i free h = tt
low_more i held h = tt
low_more i meta h = tt
low_more i writer h = tt
low_more i outside h = tt
low_more i (file j) h = omega arith

abbrev pub Sub : (ℕ → Owner) → ℕ → (ℕ → Owner) → Type 0
Sub whole i own = (x : ℕ) → (own x ≡ free) ⊎ ((own x ≡ whole x) × Low i (own x))

pub sub_start : {N : ℕ} {s : Store} {b : Base} → Mounted N s b → Sub b.own 0 (start_own b.pc b.mp)
sub_start {b = b} m x =
    start_cases b.pc b.mp m.mp_in x (λ o. (o ≡ free) ⊎ ((o ≡ b.own x) × Low 0 o))
    (λ z. inr (sym (ap b.own z ∙ m.owners.meta_at), tt)) (λ n z. inr (sym (m.owners.out_at x z), tt)) (λ n z. inl refl)

pub case : {A B C : Type 0} → A ⊎ B → (A → C) → (B → C) → C
case (inl a) f g = f a
case (inr b) f g = g b

-- so the pages of file i are free still
pub sub_free : {N : ℕ} {s : Store} {b : Base} (m : Mounted N s b) (i : ℕ) (own : ℕ → Owner) → Sub b.own i own → AllFree own (m.files i).pages
sub_free m i own u y t =
    case (u y) (λ e. e)
    (λ e. let z : own y ≡ file i = e.0 ∙ (m.files i).mine y t in let w : Low i (file i) = rw z at e.1 in absurd (omega arith))

pub sub_same : (whole : ℕ → Owner) (i : ℕ) (own : ℕ → Owner) → Sub whole i own → Sub whole (suc i) own
sub_same whole i own u y = case (u y) (λ e. inl e) (λ e. inr (e.0, low_more i (own y) e.1))

pub sub_assign : {N : ℕ} {s : Store} {b : Base} (m : Mounted N s b) (i : ℕ) (own : ℕ → Owner) → Sub b.own i own → Sub b.own (suc i) (assign own (m.files i).pages (file i))
sub_assign {b = b} m i own u y = go (mem? y (m.files i).pages)
  where
    go : (d : Dec (Mem y (m.files i).pages)) → (pick d (file i) (own y) ≡ free) ⊎ ((pick d (file i) (own y) ≡ b.own y) × Low (suc i) (pick d (file i) (own y)))
    go (yes k) = inr (sym ((m.files i).mine y k), omega arith)
    go (no k) = sub_same b.own i own u y

pub ok_one : {s : Store} {pc : ℕ} {f f' : File} {l l' : List ℕ} → FileOk s pc f l → FileOk s pc f' l' → val_of f ≡ val_of f' → (f ≡ f') × (l ≡ l')
ok_one empty empty e = (refl, refl)
ok_one empty (full a h b c d w) e = clash cc
ok_one (full a h b c d w) empty e = clash cc
ok_one {l' = l'} (full {p = p} {first = f} {q = q} {n = n} a h b c d w) (full {p = p'} {first = f'} {q = q'} {n = n'} a' h' b' c' d' w') e =
    let x : p ≡ p' = cc in
    let y : f ≡ f' = cc in
    let z : q ≡ q' = cc in
    let u : n ≡ n' = cc in
    (cc, walk_one w (rw (← x, ← y) at w'))

-- a mount finds one thing
pub record SameFiles (b b' : Base) : Type 0 where
  pub pc : b.pc ≡ b'.pc
  pub tab : (i : ℕ) → b.tab i ≡ b'.tab i

pub mounted_one : {N : ℕ} {s : Store} {b b' : Base} → Mounted N s b → Mounted N s b' → SameFiles b b'
mounted_one {N} {s} {b} {b'} m m' = record { pc = pcs; tab = λ i. files i (dec_le 8 i) }
  where
    u : (b'.mseq ≤ b.mseq) × (b'.mseq ≡ b.mseq → b.mp ≤ b'.mp)
    u = m.best b'.mp b'.mseq b'.pc m'.log (omega (arith, m'.mp_in, m'.pc_in)) m'.page

    v : (b.mseq ≤ b'.mseq) × (b.mseq ≡ b'.mseq → b'.mp ≤ b.mp)
    v = m'.best b.mp b.mseq b.pc m.log (omega (arith, m.mp_in, m.pc_in)) m.page

    seqs : b.mseq ≡ b'.mseq
    seqs = omega (arith, u.0, v.0)

    mps : b.mp ≡ b'.mp
    mps = omega (arith, u.1 (sym seqs), v.1 seqs)

    pages : met b.mseq b.pc m.log ≡ met b'.mseq b'.pc m'.log
    pages = sym m.page ∙ ap s mps ∙ m'.page

    pcs : b.pc ≡ b'.pc
    pcs = cc pages

    logs : m.log ≡ m'.log
    logs = cc pages

    files : (i : ℕ) → Dec (8 ≤ i) → b.tab i ≡ b'.tab i
    files i (yes h) = m.above i h ∙ sym (m'.above i h)
    files i (no h) =
        (ok_one (m.files i).ok (rw (← pcs) at (m'.files i).ok) (m.vals i (omega arith) ∙ ap (λ (l : Replay). val_in l.files i) logs ∙ sym (m'.vals i (omega arith)))).0
