-- Mount succeeds on an image of which the store of pages says so, and finds those files. Assumes nothing.
use Rattle.seq.specs.Ids as ids
use Rattle.seq.specs.Seq as SeqSpecs
use Rattle.chain.specs.Files as files
use Rattle.map.specs.Map.{used, cleared}
use Rattle.volume.specs.declared.Best.{Best}
use Rattle.volume.specs.Scan.{scan}
use Rattle.volume.specs.Mount.{Maybe, bad, good, bind, Loaded, LoadedAll, claimed, record_of, loaded_by, load, load_from, best_ok, mount_read, mount_from}
use Rattle.owners.specs.Store as st
use Rattle.owners.specs.State.{none}
use Rattle.owners.specs.State as state
use Rattle.metalog.proofs.Table.{Typed, replay_typed}
use Rattle.metalog.specs.declared.Files.{Files}
use Prim.Native.Nat.{ℕ, zero, suc, ◌+◌, ◌≤◌, ◌<◌}
use mathlib.Core.Path.{◌≡◌, refl, sym, ap, ap₂, subst, ◌∙◌}
use mathlib.Core.Bool.{Bool, false, cond}
use mathlib.Core.List.{List, [], ◌∷◌}
use native.Mathlib.Omega.{arith}
use native.Mathlib.Nat.{zero-add, add-zero}
use lib.ListN.{length, get_or, set}
use borrow.Author.Tests.{eq-eqb, ne_eqb, le-leb, lt-ltb}
use Rattle.metalog.specs.Log.{Replay}
use Rattle.state.specs.declared.types.FileRecord.{FileRecord}
use Rattle.agree.specs.Good.{RecordOk}
use Rattle.agree.specs.View.{view, Mapped, as_file}
use Rattle.agree.proofs.Format.{empty_dirty}
use Rattle.agree.proofs.Loads.{Scanned, scan_ok, claim_sound, claim_complete}
use Rattle.agree.proofs.Maps.{mapped_start}
use Rattle.agree.proofs.Pages.{clash, view_data, view_meta}
use Rattle.agree.proofs.Records.{file_live, empty_gone, empty_ok}
use Rattle.agree.proofs.Walking.{nil_none, to_page, walk_complete}
use Rattle.owners.specs.Moves.{assign, start_own}
use Rattle.owners.specs.State.{link_of, val_l, val_in, val_of, Base, Mounted, last_of}
use Rattle.owners.specs.Store.{Link, nil, to, dat, met, File, gone, live, limit, Len, Owner, file, Mem, here, Walk, FileOk}
use Rattle.owners.proofs.Finding.{AllFree, Sub, sub_start, sub_free, sub_same, sub_assign}
use Rattle.owners.proofs.Walks.{walk_below}
use Rattle.page.specs.Page.{Bytes}
use Rattle.metalog.specs.Log.{replay_of}
use Rattle.state.specs.Values.{empty_record}
use Rattle.chain.specs.Steps.{read_at, Sought, walk, visited}
use Rattle.chain.proofs.Walks.{walk_distinct}
use Rattle.seq.specs.Seq.{below}

-- ---- what an entry says

val_none : (k : Link) (f g : ℕ) → val_l k f g ≡ none → k ≡ nil
val_none nil f g e = refl
val_none (to p) f g e = clash cc

val_at : (k : Link) (f g p a c : ℕ) → val_l k f g ≡ state.at p a c → (k ≡ to p) × (f ≡ a) × (g ≡ c)
val_at nil f g p a c e = clash cc
val_at (to q) f g p a c e = (cc, cc, cc)

-- a file of the store as a record: its numbers, with the last page's header as it stands
pub record Loads (img : List ℕ) (f : File) (r : FileRecord) : Type 0 where
  pub is : as_file r ≡ f
  pub ok : RecordOk img r
  pub mark : r.dirty ≡ false

module _ (img : List ℕ) {N : ℕ} {b : Base} (M : Mounted N (view img) b) where
  pub record OneFound (i : ℕ) (m : List ℕ) (p first flags : ℕ) : Type 0 where
    pub loaded : Loaded
    pub is : load img b.pc m p first flags ≡ good loaded
    pub file : Loads img (b.tab i) loaded.file
    pub own : ℕ → Owner
    pub map : Mapped loaded.map N own
    pub sub : Sub b.own (suc i) own

  one_found : (i : ℕ) (m : List ℕ) (own : ℕ → Owner) (p first flags : ℕ) → Mapped m N own → Sub b.own i own → val_of (b.tab i) ≡ val_l (link_of p) first flags → flags < 256 → OneFound i m p first flags
  unfolding load
  one_found i m own p first flags mapped sub e byte = by (b.tab i) (M.files i).pages refl refl (M.files i).ok
    where
      by : (f : File) (l : List ℕ) → b.tab i ≡ f → (M.files i).pages ≡ l → FileOk (view img) b.pc f l → OneFound i m p first flags
      by gone l z y st.empty =
          let n = nil_none p (val_none (link_of p) first flags (sym e ∙ ap val_of z)) in
          record {
            loaded = record { file = empty_record; map = m };
            is = rw (eq-eqb p ids.none n);
            file = record { is = empty_gone ∙ sym z; ok = empty_ok img; mark = empty_dirty };
            own = own;
            map = mapped;
            sub = sub_same b.own i own sub;
          }
      by (live q a c g) l z y (st.full {q = seq} {n = len} {x = bytes} {k = link} u v w x d walked) =
          let o = val_at (link_of p) first flags q a g (sym e ∙ ap val_of z) in
          let t = to_page p q o.0 in
          found (subst (λ (k : ℕ). view img k ≡ dat seq len link bytes) (sym t.0) v) t.1 (rw (← t.0) at u) w o.1 o.2 t.0
          x d (subst (λ (k : ℕ). Walk (view img) b.pc a k l) (sym t.0) walked)
        where
          found : {k : Link} {bytes : List ℕ} → view img p ≡ dat seq len k bytes → (p ≡ ids.none → ⊥) → p < b.pc → Len len → first ≡ a → flags ≡ g → p ≡ q → a < seq + len → seq + len ≤ st.limit
              → Walk (view img) b.pc a p l → OneFound i m p first flags
          found v n inside long e₁ e₂ e₃ x d walked =
              let s = view_data img p v in
              let h = s.header in
              let r = record_of p first flags h in
              let P = files.last_of r in
              let walked' : Walk (view img) b.pc first p l = subst (λ (k : ℕ). Walk (view img) b.pc k p l) (sym e₁) walked in
              let ends = walk_complete img b.pc first P s.reads walked' in
              let pages = visited P (walk b.pc (read_at img) first P) in
              let below : (k : ℕ) → Mem k pages → k < N = λ k j. omega (arith, walk_below (rw (← ends.pages) at walked') inside k j, M.pc_in) in
              let frees : AllFree own pages = subst (AllFree own) (sym (ends.pages ∙ sym y)) (sub_free M i own sub) in
              let c₁ = claim_complete pages m N own mapped below (walk_distinct b.pc (read_at img) first P ends.last s.reads ends.ends) frees in
              let c₂ = claim_sound pages m c₁.0 N own i mapped below c₁.1 in
              let le : h.seq + h.length ≤ SeqSpecs.limit = omega (arith, s.seq, s.long) in
              let lt : first < h.seq + h.length = omega (arith, s.seq, s.long) in
              record {
                loaded = record { file = r; map = c₁.0 };
                is =
                    rw (ne_eqb p ids.none n)
                    (ap (loaded_by img b.pc m p first flags) s.reads
                    ∙ rw (le-leb (h.seq + h.length) SeqSpecs.limit le, lt-ltb first (h.seq + h.length) lt)
                    (ap (λ (k : Sought). bind (claimed m P (walk b.pc (read_at img) first P) k) (λ m'. good (record { file = r; map = m' }))) ends.ends
                    ∙ ap (λ (k : Maybe (List ℕ)). bind k (λ m'. good (record { file = r; map = m' }))) c₁.1));
                file =
                    record {
                      is = file_live r n ∙ live_is (h.seq + h.length) (omega (arith, s.seq, s.long)) e₁ e₂ e₃ ∙ sym z;
                      ok = record { empty = λ k. absurd (n k); stands = λ k. s.reads; byte = byte };
                      mark = refl;
                    };
                own = assign own (M.files i).pages (file i);
                map = subst (λ (k : List ℕ). Mapped c₁.0 N (assign own k (file i))) (ends.pages ∙ sym y) c₂.are;
                sub = sub_assign M i own sub;
              }
            where
              live_is : (k : ℕ) → k ≡ seq + len → first ≡ a → flags ≡ g → p ≡ q → live p first k flags ≡ live q a (seq + len) g
              live_is k e e₁ e₂ e₃ = cc

  -- ---- the files from i on

  pub record AllFound (i n : ℕ) (m : List ℕ) (f : Files) : Type 0 where
    pub loaded : LoadedAll
    pub is : load_from img b.pc f i n m ≡ good loaded
    pub size : length loaded.files ≡ n
    pub files : (k : ℕ) → k < n → Loads img (b.tab (i + k)) (get_or loaded.files k empty_record)

  from_found : (f : Files) (i n : ℕ) (m : List ℕ) (own : ℕ → Owner) → i + n ≤ 8 → Mapped m N own → Sub b.own i own → ((j : ℕ) → j < 8 → val_of (b.tab j) ≡ val_in f j) → ((j : ℕ) → get_or f.flags j 0 < 256) → AllFound i n m f
  unfolding load_from
  from_found f i zero m own h mapped sub a byte = record { loaded = record { files = []; map = m }; is = refl; size = refl; files = λ k q. absurd (omega arith) }
  from_found f i (suc n) m own h mapped sub a byte =
      let x = one_found i m own (get_or f.last i 0) (get_or f.first i 0) (get_or f.flags i 0) mapped sub (a i (omega arith)) (byte i) in
      let y = from_found f (suc i) n x.loaded.map x.own (omega arith) x.map x.sub a byte in
      record {
        loaded = record { files = x.loaded.file ∷ y.loaded.files; map = y.loaded.map };
        is =
            ap (λ (k : Maybe Loaded). bind k (λ x. bind (load_from img b.pc f (suc i) n x.map) (λ y. good (record { files = x.file ∷ y.files; map = y.map })))) x.is
            ∙ ap (λ (k : Maybe LoadedAll). bind k (λ y. good (record { files = x.loaded.file ∷ y.files; map = y.map }))) y.is;
        size = ap suc y.size;
        files = each x y;
      }
    where
      each : (x : OneFound i m (get_or f.last i 0) (get_or f.first i 0) (get_or f.flags i 0)) (y : AllFound (suc i) n x.loaded.map f)
          → (k : ℕ) → k < suc n → Loads img (b.tab (i + k)) (get_or (x.loaded.file ∷ y.loaded.files) k empty_record)
      each x y zero q = subst (λ (j : ℕ). Loads img (b.tab j) x.loaded.file) (sym (add-zero i)) x.file
      each x y (suc k) q = let t : i + suc k ≡ suc i + k = omega arith in subst (λ (j : ℕ). Loads img (b.tab j) (get_or y.loaded.files k empty_record)) (sym t) (y.files k (omega arith))

  -- ---- MOUNT

  pub record Finds : Type 0 where
    pub loaded : LoadedAll
    pub is : mount_from img N (scan img N) ≡ good loaded
    pub count : (scan img N).page_count ≡ b.pc
    pub size : length loaded.files ≡ 8
    pub files : (i : ℕ) → i < 8 → Loads img (b.tab i) (get_or loaded.files i empty_record)

  scan_is : (s : Scanned img N (scan img N)) → ((scan img N).page ≡ b.mp) × ((scan img N).seq ≡ b.mseq) × ((scan img N).page_count ≡ b.pc)
  scan_is s =
      let x = scan img N in
      let u = s.low b.mp b.mseq b.pc M.log (omega (arith, M.mp_in, M.pc_in)) M.page in
      let here = s.here (omega (arith, u.0, M.pos)) in
      let v = M.best x.page x.seq x.page_count (replay_of x.page_count img x.page) here.1 here.0 in
      let q : x.seq ≡ b.mseq = omega (arith, u.0, v.0) in
      let p : x.page ≡ b.mp = omega (arith, u.1 (sym q) M.pos, v.1 q) in
      let z : met x.seq x.page_count (replay_of x.page_count img x.page) ≡ met b.mseq b.pc M.log = sym here.0 ∙ ap (view img) p ∙ M.page in
      (p, q, cc)

  pub mount_finds : Bytes img → Finds
  unfolding mount_from best_ok
  mount_finds bs =
      let s = scan_ok img N in
      let k = scan_is s in
      let r = view_meta img b.mp M.page in
      let t = subst (λ (x : Replay). Typed x.files) r.replay (replay_typed b.pc img b.mp bs) in
      let a = from_found M.log.files 0 8 (set (cleared N b.pc) b.mp used) (start_own b.pc b.mp) (omega arith) (mapped_start N b.pc M.pc_in b.mp (omega (arith, M.mp_in, M.pc_in))) (sub_start M) M.vals t.flags in
      let one : 1 ≤ b.mseq = omega (arith, M.pos) in
      record {
        loaded = a.loaded;
        is =
            scan_as (scan img N) k.0 k.1 k.2
            (rw (le-leb 1 b.mseq one, lt-ltb b.mp b.pc M.mp_in, le-leb b.pc N M.pc_in)
            (ap (mount_read img N (record { page = b.mp; page_count = b.pc; seq = b.mseq })) r.replay
            ∙ ap (λ (c : Bool). cond c (load_from img b.pc M.log.files 0 8 (set (cleared N b.pc) b.mp used)) bad) M.log_ok ∙ a.is));
        count = k.2;
        size = a.size;
        files = λ i h. subst (λ (j : ℕ). Loads img (b.tab j) (get_or a.loaded.files i empty_record)) (zero-add i) (a.files i h);
      }
    where
      scan_as : (x : Best) → x.page ≡ b.mp → x.seq ≡ b.mseq → x.page_count ≡ b.pc → {y : LoadedAll}
          → mount_from img N (record { page = b.mp; page_count = b.pc; seq = b.mseq }) ≡ good y → mount_from img N x ≡ good y
      scan_as x p q c {y} h = ap (mount_from img N) as_is ∙ h
        where
          as_is : x ≡ record { page = b.mp; page_count = b.pc; seq = b.mseq }
          as_is = ap₂ (λ (i j : ℕ). record { page = i; page_count = x.page_count; seq = j }) p q ∙ ap (λ (j : ℕ). record { page = b.mp; page_count = j; seq = b.mseq }) c
