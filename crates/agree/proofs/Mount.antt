-- Mount: where it succeeds the invariant starts, and it succeeds on an image of which the store of pages says so. Assumes nothing.
use Rattle.seq.specs.Ids as ids
use Rattle.seq.specs.Seq as SeqSpecs
use mathlib.Core.Bool.{and-eq-true_iff}
use native.Mathlib.Nat.{mod-lt}
use Rattle.state.specs.World.{World}
use Rattle.state.specs.Values.{settled}
use Rattle.chain.specs.Files as files
use Rattle.chain.specs.Steps.{at, damaged}
use Rattle.metalog.proofs.Table.{replay_typed}
use Rattle.map.specs.Map.{used, cleared}
use Rattle.volume.specs.declared.Best.{Best}
use Rattle.volume.specs.Scan.{scan}
use Rattle.volume.specs.Mount.{Maybe, bad, good, bind, Loaded, LoadedAll, claimed, record_of, loaded_by, load, load_from, best_ok, mount_from}
use Rattle.owners.specs.Store as st
use Prim.Native.Nat.{ℕ, zero, suc, ◌+◌, ◌*◌, ◌%◌, ◌≤◌, ◌<◌}
use mathlib.Core.Path.{◌≡◌, refl, sym, ap, subst, ◌∙◌}
use mathlib.Core.Bool.{Bool, true, false, cond, ◌&&◌}
use mathlib.Core.Logic.{◌⊎◌}
use mathlib.Core.List.{List, [], ◌∷◌}
use native.Mathlib.Omega.{arith}
use native.Mathlib.Nat.{zero-add, add-zero}
use native.Mathlib.Decide.{ℕ_discrete, dec_lt}
use lib.ListN.{length, get_or, set, get_or-eq_default}
use lib.Dec.{leb, ltb, eqb}
use borrow.Author.Tests.{eqb-true, eqb-false, ltb-true, leb-true}
use Rattle.metalog.specs.declared.Files.{Files}
use Rattle.state.specs.declared.types.FileRecord.{FileRecord}
use Rattle.agree.specs.Good.{RecordOk, Known}
use Rattle.agree.specs.Rules.{ChainOf}
use Rattle.agree.specs.View.{view, Mapped, as_file}
use Rattle.agree.proofs.Finish.{none_shut}
use Rattle.agree.proofs.Format.{empty_dirty}
use Rattle.agree.proofs.Hunts.{no_search_ok}
use Rattle.agree.proofs.Loads.{scan_ok, replay_last, claim_sound}
use Rattle.agree.proofs.Maps.{mapped_start}
use Rattle.agree.proofs.Pages.{clash, data_view}
use Rattle.agree.proofs.Records.{link_none, link_some, file_live, empty_gone, empty_ok, now_is, inv_is}
use Rattle.agree.proofs.Walking.{walk_sound}
use Rattle.owners.specs.Moves.{set_f}
use Rattle.owners.specs.State.{link_of, Val, val_l, val_in, Base, Mounted}
use Rattle.owners.specs.Store.{Link, File, gone, live, limit, file, Mem, here, FileOk}
use Rattle.owners.proofs.Finding.{Part, taken, Upto, upto_none, upto_live, start_part, base_of, start_upto, upto_mounted, case}
use Rattle.owners.proofs.Tables.{pick_yes, pick_no, inv_mount}
use Rattle.owners.proofs.Walks.{walk_below}
use Rattle.page.specs.Page.{page_of, Read, unreadable, readable, Bytes}
use Rattle.page.proofs.Headers.{header_bounds}
use Rattle.metalog.specs.Log.{replay_of}
use Rattle.state.specs.Values.{empty_record, no_writer}
use Rattle.state.specs.World.{before}
use Rattle.chain.specs.Steps.{read_at, Sought, walk, visited}
use Rattle.seq.specs.Seq.{below}

-- ---- answers

bind_good : {A B : Type 0} (m : Maybe A) (f : A → Maybe B) (y : B) → bind m f ≡ good y → (x : A) × (m ≡ good x) × (f x ≡ good y)
bind_good bad f y e = clash cc
bind_good (good a) f y e = (a, refl, e)

cond_good : {A : Type 0} (t : Bool) (m : Maybe A) (y : A) → cond t m bad ≡ good y → (t ≡ true) × (m ≡ good y)
cond_good true m y e = (refl, e)
cond_good false m y e = clash cc

-- ---- one file

module _ (img : List ℕ) (N pc mp : ℕ) (v : ℕ → Val) (small : pc ≤ N) where
  pub record OneIs (i : ℕ) (y : Loaded) (P' : Part) : Type 0 where
    pub map : Mapped y.map N P'.own
    pub is : P'.tab i ≡ as_file y.file
    pub ok : RecordOk img y.file
    pub mark : y.file.dirty ≡ false
    pub upto : Upto (view img) pc mp v (suc i) P'

  set_at : (t : ℕ → File) (i : ℕ) (f : File) → set_f t i f i ≡ f
  set_at t i f = pick_yes (ℕ_discrete i i) refl f (t i)

  load_sound : (m : List ℕ) (P : Part) (i p first flags : ℕ) → Mapped m N P.own → Upto (view img) pc mp v i P → v i ≡ val_l (link_of p) first flags → (p ≡ ids.none) ⊎ (p < pc) → flags < 256
      → (y : Loaded) → load img pc m p first flags ≡ good y → (P' : Part) × OneIs i y P' × ((j : ℕ) → ¬ (j ≡ i) → P'.tab j ≡ P.tab j)
  unfolding load
  load_sound m P i p first flags mapped u e o byte y l = by (eqb p ids.none) refl l
    where
      in_walk : (p ≡ ids.none → ⊥) → p < pc
      in_walk n = case o (λ z. absurd (n z)) (λ z. z)

      read : (p ≡ ids.none → ⊥) → (r : Read) → read_at img p ≡ r → loaded_by img pc m p first flags r ≡ good y → (P' : Part) × OneIs i y P' × ((j : ℕ) → ¬ (j ≡ i) → P'.tab j ≡ P.tab j)
      read n unreadable h l = clash cc
      read n (readable h) s l =
          let f = record_of p first flags h in
          let t = walk pc (read_at img) first (files.last_of f) in
          let a = cond_good (leb f.last_seq SeqSpecs.limit && ltb first f.last_seq) _ y l in
          let c = (and-eq-true_iff (leb f.last_seq SeqSpecs.limit) (ltb first f.last_seq)).0 a.0 in
          let d = bind_good (claimed m (files.last_of f) t t.ends) _ y a.1 in
          ends t.ends refl d.0 d.1 (cc d.2) (leb-true f.last_seq SeqSpecs.limit c.0) (ltb-true first f.last_seq c.1)
        where
          f : FileRecord
          f = record_of p first flags h

          ends : (q : Sought) → (walk pc (read_at img) first (files.last_of (record_of p first flags h))).ends ≡ q → (m' : List ℕ)
              → claimed m (files.last_of (record_of p first flags h)) (walk pc (read_at img) first (files.last_of (record_of p first flags h))) q ≡ good m'
              → record { file = record_of p first flags h; map = m' } ≡ y → h.seq + h.length ≤ SeqSpecs.limit → first < h.seq + h.length
              → (P' : Part) × OneIs i y P' × ((j : ℕ) → ¬ (j ≡ i) → P'.tab j ≡ P.tab j)
          ends damaged z m' k same a c = clash cc
          ends (at q) z m' k same a c =
              let l = visited (files.last_of (record_of p first flags h)) (walk pc (read_at img) first (files.last_of (record_of p first flags h))) in
              let w = walk_sound img pc first (files.last_of (record_of p first flags h)) q s z in
              let below : (x : ℕ) → Mem x l → x < N = λ x j. omega (arith, walk_below w (in_walk n) x j) in
              let r = claim_sound l m m' N P.own i mapped below k in
              let g = live p first (h.seq + h.length) flags in
              let fo : FileOk (view img) pc g l = st.full (in_walk n) (data_view img p h s) (header_bounds (page_of img p) h s) c a w in
              let P' = taken P i g l in (
                P',
                subst (λ (y : Loaded). OneIs i y P') same (record {
                  map = r.are;
                  is = set_at P.tab i g ∙ sym (file_live (record_of p first flags h) n);
                  ok = record { empty = λ z. absurd (n z); stands = λ z. s; byte = byte };
                  mark = refl;
                  upto = upto_live g l u (e ∙ ap (λ (k : Link). val_l k first flags) (link_some p n)) fo r.were;
                }),
                λ j k. pick_no (ℕ_discrete j i) k g (P.tab j),
              )

      by : (c : Bool) → eqb p ids.none ≡ c → cond c (good (record { file = empty_record; map = m })) (loaded_by img pc m p first flags (read_at img p)) ≡ good y
          → (P' : Part) × OneIs i y P' × ((j : ℕ) → ¬ (j ≡ i) → P'.tab j ≡ P.tab j)
      by true z l =
          let same : record { file = empty_record; map = m } ≡ y = cc in (
            P,
            subst (λ (y : Loaded). OneIs i y P) same (record {
              map = mapped;
              is = u.later i (omega arith) ∙ sym empty_gone;
              ok = empty_ok img;
              mark = empty_dirty;
              upto = upto_none u (e ∙ ap (λ (k : Link). val_l k first flags) (link_none p (eqb-true p ids.none z)));
            }),
            λ j k. refl,
          )
      by false z l = read (eqb-false p ids.none z) (read_at img p) refl l

  -- ---- the files from i on

  pub record FilesIs (i n : ℕ) (y : LoadedAll) (P' : Part) : Type 0 where
    pub map : Mapped y.map N P'.own
    pub size : length y.files ≡ n
    pub is : (k : ℕ) → k < n → P'.tab (i + k) ≡ as_file (get_or y.files k empty_record)
    pub ok : (k : ℕ) → RecordOk img (get_or y.files k empty_record)
    pub mark : (k : ℕ) → (get_or y.files k empty_record).dirty ≡ false
    pub upto : Upto (view img) pc mp v (i + n) P'

  from_sound : (f : Files) (i n : ℕ) (m : List ℕ) (P : Part) → i + n ≤ 8 → Mapped m N P.own → Upto (view img) pc mp v i P → ((j : ℕ) → j < 8 → v j ≡ val_in f j)
      → ((j : ℕ) → j < 8 → (get_or f.last j 0 ≡ ids.none) ⊎ (get_or f.last j 0 < pc)) → ((j : ℕ) → get_or f.flags j 0 < 256)
      → (y : LoadedAll) → load_from img pc f i n m ≡ good y → (P' : Part) × FilesIs i n y P' × ((j : ℕ) → j < i → P'.tab j ≡ P.tab j)
  unfolding load_from
  from_sound f i zero m P h mapped u a o byte y l =
      let same : record { files = []; map = m } ≡ y = cc in (
        P,
        subst (λ (y : LoadedAll). FilesIs i 0 y P) same (record {
          map = mapped;
          size = refl;
          is = λ k q. absurd (omega arith);
          ok = λ k. empty_ok img;
          mark = λ k. empty_dirty;
          upto = subst (λ (k : ℕ). Upto (view img) pc mp v k P) (sym (add-zero i)) u;
        }),
        λ j k. refl,
      )
  from_sound f i (suc n) m P h mapped u a o byte y l =
      let d = bind_good (load img pc m (get_or f.last i 0) (get_or f.first i 0) (get_or f.flags i 0)) _ y l in
      let x = d.0 in
      let r = load_sound m P i (get_or f.last i 0) (get_or f.first i 0) (get_or f.flags i 0) mapped u (a i (omega arith)) (o i (omega arith)) (byte i) x d.1 in
      let d₂ = bind_good (load_from img pc f (suc i) n x.map) _ y d.2 in
      let s = from_sound f (suc i) n x.map r.0 (omega arith) r.1.map r.1.upto a o byte d₂.0 d₂.1 in
      let same : record { files = x.file ∷ d₂.0.files; map = d₂.0.map } ≡ y = cc d₂.2 in
      (s.0, subst (λ (y : LoadedAll). FilesIs i (suc n) y s.0) same (join x r.0 r.1 d₂.0 s.0 s.1 s.2), λ j k. s.2 j (omega arith) ∙ r.2 j (omega arith))
    where
      join : (x : Loaded) (P₁ : Part) → OneIs i x P₁ → (z : LoadedAll) (P₂ : Part) → FilesIs (suc i) n z P₂ → ((j : ℕ) → j < suc i → P₂.tab j ≡ P₁.tab j) → FilesIs i (suc n) (record { files = x.file ∷ z.files; map = z.map }) P₂
      join x P₁ one z P₂ s before =
          record {
            map = s.map;
            size = ap suc s.size;
            is = is;
            ok = ok;
            mark = mark;
            upto = subst (λ (k : ℕ). Upto (view img) pc mp v k P₂) (omega arith) s.upto;
          }
        where
          is : (k : ℕ) → k < suc n → P₂.tab (i + k) ≡ as_file (get_or (x.file ∷ z.files) k empty_record)
          is zero q = ap P₂.tab (add-zero i) ∙ before i (omega arith) ∙ one.is
          is (suc k) q = let t : i + suc k ≡ suc i + k = omega arith in ap P₂.tab t ∙ s.is k (omega arith)

          ok : (k : ℕ) → RecordOk img (get_or (x.file ∷ z.files) k empty_record)
          ok zero = one.ok
          ok (suc k) = s.ok k

          mark : (k : ℕ) → (get_or (x.file ∷ z.files) k empty_record).dirty ≡ false
          mark zero = one.mark
          mark (suc k) = s.mark k

-- ---- MOUNT, where it succeeds

best_says : (n : ℕ) (b : Best) → best_ok n b ≡ true → (1 ≤ b.seq) × (b.page < b.page_count) × (b.page_count ≤ n)
unfolding best_ok
best_says n b h =
    let a = (and-eq-true_iff (leb 1 b.seq && ltb b.page b.page_count) (leb b.page_count n)).0 h in
    let c = (and-eq-true_iff (leb 1 b.seq) (ltb b.page b.page_count)).0 a.0 in
    (leb-true 1 b.seq c.0, ltb-true b.page b.page_count c.1, leb-true b.page_count n a.1)

pub mount_known : (D : Type 0) (w : World) → Bytes w.image → (n seed : ℕ) (x : LoadedAll) → (D → (b : Base) → Mounted n (view w.image) b → (i : ℕ) → ChainOf w.image b.pc (b.tab i)) → length w.image ≡ 256 * n → 4 ≤ n → n ≤ 1024 → mount_from w.image n (scan w.image n) ≡ good x
    → Known D n (record { image = w.image; map = x.map; table = record { files = x.files }; state = settled n (scan w.image n).page_count (scan w.image n).page (scan w.image n).seq (seed % (scan w.image n).page_count) seed })
unfolding mount_from settled no_writer
mount_known D w bs n seed x rules size low high e =
    let img = w.image in
    let b = scan w.image n in
    let s = scan_ok img n in
    let c = cond_good (best_ok n b) _ x e in
    let k = best_says n b c.0 in
    let here = s.here (omega (arith, k.0)) in
    let r = replay_of b.page_count img b.page in
    let d = cond_good r.ok _ x c.1 in
    let t = replay_typed b.page_count img b.page bs in
    let u =
    from_sound img n b.page_count b.page (val_in r.files) k.2 r.files 0 8 (set (cleared n b.page_count) b.page used) (start_part b.page_count b.page) (omega arith)
    (mapped_start n b.page_count k.2 b.page here.1) (start_upto b.page_count b.page k.1 (view img) (val_in r.files)) (λ j h. refl)
    (replay_last b.page_count img b.page d.0) t.flags x d.1 in
    let P = u.0 in
    let f = u.1 in
    let m = upto_mounted here.0 (omega (arith, k.0)) k.1 k.2 (λ p q c l h z. let y = s.low p q c l h z in (y.0, λ a. best_low b.seq q a y.1 k.0)) d.0 f.upto in
    record {
      base = base_of (view img) b.page b.seq b.page_count P;
      own = P.own;
      good =
          record {
            sees =
                record {
                  size = size;
                  big = low;
                  small = high;
                  bytes = bs;
                  mp = refl;
                  mseq = refl;
                  pc = refl;
                  cursor = omega (arith, mod-lt seed {m = b.page_count} (omega (arith, k.1)));
                  flag = refl;
                  pages = refl;
                  search = no_search_ok;
                  owners = f.map;
                  eight = f.size;
                  recs = f.ok;
                  wr = λ e. clash cc;
                };
            inv = inv_is (now_is (λ i. by_id P x f.is f.size m.above i (dec_lt i 8)) (λ y. refl) (λ i. sym (f.mark i)) refl (sym none_shut)) (inv_mount m);
            rules = λ d.
                let c = rules d (base_of (view img) b.page b.seq b.page_count P) m in
                record { now = λ i. subst (ChainOf img b.page_count) (by_id P x f.is f.size m.above i (dec_lt i 8)) (c i); base = c; wr = λ e. clash cc };
          };
    }
  where
    best_low : (q r : ℕ) → {X : Type 0} → r ≡ q → (r ≡ q → 0 < r → X) → 1 ≤ q → X
    best_low q r a f h = f a (omega arith)

    by_id : (P : Part) (x : LoadedAll) → ((k : ℕ) → k < 8 → P.tab (0 + k) ≡ as_file (get_or x.files k empty_record)) → length x.files ≡ 8 → ((i : ℕ) → 8 ≤ i → P.tab i ≡ gone) → (i : ℕ) → Dec (i < 8)
        → P.tab i ≡ as_file (get_or x.files i empty_record)
    by_id P x f n a i (yes h) = ap P.tab (sym (zero-add i)) ∙ f i h
    by_id P x f n a i (no h) = a i (omega arith) ∙ sym (ap as_file (get_or-eq_default x.files empty_record {n = i} (omega arith)) ∙ empty_gone)
