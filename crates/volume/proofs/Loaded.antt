-- Files load exactly if each is what its entry says on the image and all their pages can be claimed. Assumes nothing.
use mathlib.Core.Path.{◌≡◌, refl, sym, ap, ◌∙◌, subst}
use mathlib.Core.Bool.{Bool, true, false, cond, ◌&&◌}
use mathlib.Core.Logic.{inl, inr}
use mathlib.Core.List.{List, [], ◌∷◌}
use Prim.Native.Nat.{ℕ, zero, suc, ◌+◌, ◌≤◌, ◌<◌}
use native.Mathlib.Decide.{ℕ_discrete}
use native.Mathlib.Omega.{arith}
use borrow.Author.Tests.{ne_eqb, eqb-true, eqb-false, leb-true, ltb-true}
use lib.Dec.{eqb, leb, ltb}
use lib.ListN.{length, get_or, set, get_or-replicate}
use lib.Seq.{get_or-set_same, get_or-set_other, set_out}
use Rattle.seq.specs.Ids.{none}
use Rattle.seq.specs.Seq.{limit}
use Rattle.runs.proofs.Laws.{cond_by}
use Rattle.page.specs.declared.DataHeader.{DataHeader}
use Rattle.page.specs.Page.{Read, unreadable, readable}
use Rattle.page.proofs.Laws.{split}
use Rattle.metalog.specs.declared.Entry.{Entry}
use Rattle.metalog.specs.declared.Files.{Files}
use Rattle.metalog.specs.Log.{Replay, sound, no_files, put, add, adds}
use Rattle.metalog.proofs.Table.{Sounds}
use Rattle.chain.specs.declared.PagePointer.{PagePointer}
use Rattle.chain.specs.Files.{last_of}
use Rattle.chain.specs.Links.{ids}
use Rattle.chain.specs.Steps.{read_at, Sought, damaged, at, Trace, walk, visited}
use Rattle.chain.specs.Walk.{Each, Back}
use Rattle.chain.proofs.Walks.{walk_visits}
use Rattle.state.specs.declared.types.FileRecord.{FileRecord}
use Rattle.state.specs.Values.{empty_record}
use Rattle.state.proofs.Laws.{both}
use Rattle.volume.specs.Mount.{Maybe, bad, good, bind, claim, claimed, Loaded, record_of, loaded_by, load, LoadedAll, load_from}
use Rattle.volume.specs.Mounted.{Sound, FileIs, FilesAre, pages_of, all_pages}
use Rattle.volume.proofs.Marks.{each_append, claim_append}
use Rattle.volume.proofs.Exits.{load_none, load_live, load_at}

-- ---- the pages of a record

module _ (img : List ℕ) (count : ℕ) where
  pub pages_empty : pages_of img count empty_record ≡ []
  unfolding pages_of empty_record
  pages_empty = refl

  pub pages_live : (p first flags : ℕ) (h : DataHeader) → (p ≡ none → ⊥)
      → pages_of img count (record_of p first flags h) ≡ visited (last_of (record_of p first flags h)) (walk count (read_at img) first (last_of (record_of p first flags h)))
  unfolding pages_of
  pages_live p first flags h n = rw (ne_eqb p none n)

  -- ---- one file

  module _ (m : List ℕ) (p first flags : ℕ) where
    -- what a record and the map with its pages used say
    abbrev Says : Loaded → Type 0
    Says x = FileIs img count p first flags x.file × (claim m (pages_of img count x.file) ≡ good x.map)

    pub load_says : ((p ≡ none → ⊥) → p < count) → (x : Loaded) → load img count m p first flags ≡ good x → Says x
    unfolding load claim
    load_says inside x e =
        cond_by (eqb p none) _ _ _ e
        (λ t e. let z : record { file = empty_record; map = m } ≡ x = cc in subst Says z (inl (eqb-true p none t, refl), ap (claim m) pages_empty))
        (λ t e. read (eqb-false p none t) (read_at img p) refl e)
      where
        walked : (some : p ≡ none → ⊥) (h : DataHeader) → read_at img p ≡ readable h → (leb (h.seq + h.length) limit && ltb first (h.seq + h.length)) ≡ true
            → let f = record_of p first flags h in
            let t = walk count (read_at img) first (last_of f) in
            (s : Sought) → t.ends ≡ s → bind (claimed m (last_of f) t s) (λ m'. good (record { file = f; map = m' })) ≡ good x → Says x
        walked some h r k damaged w e = cc
        walked some h r k (at q) w e = by (claim m (visited (last_of f) t)) refl e
          where
            f : FileRecord
            f = record_of p first flags h

            t : Trace
            t = walk count (read_at img) first (last_of (record_of p first flags h))

            b : (leb (h.seq + h.length) limit ≡ true) × (ltb first (h.seq + h.length) ≡ true)
            b = both (leb (h.seq + h.length) limit) (ltb first (h.seq + h.length)) k

            by : (c : Maybe (List ℕ)) → claim m (visited (last_of (record_of p first flags h)) (walk count (read_at img) first (last_of (record_of p first flags h)))) ≡ c
                → bind c (λ m'. good (record { file = record_of p first flags h; map = m' })) ≡ good x → Says x
            by bad c e = cc
            by (good m') c e =
                let z : record { file = record_of p first flags h; map = m' } ≡ x = cc in
                subst Says z (
                  inr (record {
                    some = some;
                    inside = inside some;
                    header = h;
                    reads = r;
                    is = refl;
                    limited = leb-true _ _ b.0;
                    holds = ltb-true _ _ b.1;
                    end = q;
                    walks = w;
                  }),
                  ap (claim m) (pages_live p first flags h some) ∙ c,
                )

        read : (p ≡ none → ⊥) → (r : Read) → read_at img p ≡ r → loaded_by img count m p first flags r ≡ good x → Says x
        read some unreadable r e = cc
        read some (readable h) r e =
            cond_by (leb (h.seq + h.length) limit && ltb first (h.seq + h.length)) _ _ _ e
            (λ k e. walked some h r k (walk count (read_at img) first (last_of (record_of p first flags h))).ends refl e) (λ k e. cc)

    pub load_is : (f : FileRecord) (m' : List ℕ) → FileIs img count p first flags f → claim m (pages_of img count f) ≡ good m'
        → load img count m p first flags ≡ good (record { file = f; map = m' })
    unfolding claim
    load_is f m' (inl i) c =
        let e : good m ≡ good m' = sym (ap (claim m) (ap (pages_of img count) i.1 ∙ pages_empty)) ∙ c in
        sym (load_none img count m p first flags i.0) ∙ (let z : m ≡ m' = cc in rw (i.1, z))
    load_is f m' (inr i) c =
        let h = i.header in
        let g = record_of p first flags h in
        let e : claim m (visited (last_of (record_of p first flags i.header)) (walk count (read_at img) first (last_of (record_of p first flags i.header)))) ≡ good m' =
        sym (ap (claim m) (ap (pages_of img count) i.is ∙ pages_live p first flags h i.some)) ∙ c in
        load_live img count m p first flags i.some h i.reads i.limited i.holds ∙ rw (i.walks, e, i.is)

  -- ---- all files

  -- the entries name no last page outside page_count
  abbrev pub Inside : Files → Type 0
  Inside f = (i : ℕ) → i < 8 → (get_or f.last i 0 ≡ none → ⊥) → get_or f.last i 0 < count

  module _ (f : Files) where
    abbrev AllSay : List ℕ → ℕ → ℕ → LoadedAll → Type 0
    AllSay m i n y = FilesAre img count f i y.files × (length y.files ≡ n) × (claim m (all_pages img count y.files) ≡ good y.map)

    pub from_says : Inside f → (i n : ℕ) (m : List ℕ) → i + n ≤ 8 → (y : LoadedAll) → load_from img count f i n m ≡ good y → AllSay m i n y
    unfolding load_from claim
    from_says inside i zero m h y e = let z : record { files = []; map = m } ≡ y = cc in subst (AllSay m i zero) z (tt, refl, refl)
    from_says inside i (suc n) m h y e =
        first (load_at img count f i m) refl e (λ m z e. from_says inside (suc i) n m (omega arith) z e)
      where
        rest : (x : Loaded) → load_at img count f i m ≡ good x → (r : Maybe LoadedAll) → load_from img count f (suc i) n x.map ≡ r
            → bind r (λ z. good (record { files = x.file ∷ z.files; map = z.map })) ≡ good y
            → ((z : LoadedAll) → load_from img count f (suc i) n x.map ≡ good z → AllSay x.map (suc i) n z) → AllSay m i (suc n) y
        rest x l bad q e ih = cc
        rest x l (good z) q e ih =
            let a = load_says m (get_or f.last i 0) (get_or f.first i 0) (get_or f.flags i 0) (inside i (omega arith)) x l in
            let b = ih z q in
            let k : record { files = x.file ∷ z.files; map = z.map } ≡ y = cc in
            subst (AllSay m i (suc n)) k
            ((a.0, b.0), ap suc b.1, claim_append m (pages_of img count x.file) (all_pages img count z.files) ∙ rw a.1 b.2)

        first : (r : Maybe Loaded) → load_at img count f i m ≡ r
            → bind r (λ x. bind (load_from img count f (suc i) n x.map) (λ z. good (record { files = x.file ∷ z.files; map = z.map }))) ≡ good y
            → ((m : List ℕ) (z : LoadedAll) → load_from img count f (suc i) n m ≡ good z → AllSay m (suc i) n z) → AllSay m i (suc n) y
        first bad l e ih = cc
        first (good x) l e ih = rest x l (load_from img count f (suc i) n x.map) refl e (ih x.map)

    pub from_is : (i : ℕ) (m : List ℕ) (l : List FileRecord) (m' : List ℕ) → FilesAre img count f i l → claim m (all_pages img count l) ≡ good m'
        → load_from img count f i (length l) m ≡ good (record { files = l; map = m' })
    unfolding load_from claim
    from_is i m [] m' a c = let z : m ≡ m' = cc in rw z
    from_is i m (g ∷ l) m' a c =
        by (claim m (pages_of img count g)) refl (sym (claim_append m (pages_of img count g) (all_pages img count l)) ∙ c)
        (λ m₁ c. from_is (suc i) m₁ l m' a.1 c)
      where
        by : (r : Maybe (List ℕ)) → claim m (pages_of img count g) ≡ r → bind r (λ m. claim m (all_pages img count l)) ≡ good m'
            → ((m : List ℕ) → claim m (all_pages img count l) ≡ good m' → load_from img count f (suc i) (length l) m ≡ good (record { files = l; map = m' }))
            → bind (load_at img count f i m) (λ x. bind {B = LoadedAll} (load_from img count f (suc i) (length l) x.map) (λ z. good (record { files = x.file ∷ z.files; map = z.map })))
            ≡ good (record { files = g ∷ l; map = m' })
        by bad q e ih = cc
        by (good m₁) q e ih = rw (load_is m (get_or f.last i 0) (get_or f.first i 0) (get_or f.flags i 0) g m₁ a.0 q, ih m₁ e)

    -- ---- their pages

    each_back : (t : ℕ) (p : PagePointer) (l : List PagePointer) → Back count (read_at img) t p l → Each (λ q. q < count) (ids l)
    each_back t p [] b = tt
    each_back t p (q ∷ l) b = (b.0.inside, each_back t q l b.1)

    -- are below page_count
    pub pages_inside : (p first flags : ℕ) (g : FileRecord) → FileIs img count p first flags g → Each (λ q. q < count) (pages_of img count g)
    pages_inside p first flags g (inl i) = subst (Each (λ q. q < count)) (sym (ap (pages_of img count) i.1 ∙ pages_empty)) tt
    pages_inside p first flags g (inr i) =
        let h = i.header in
        let last = last_of (record_of p first flags h) in
        let v = walk_visits count (read_at img) first last i.end i.walks in
        let e : pages_of img count g ≡ p ∷ ids v.pages =
        ap (pages_of img count) i.is ∙ pages_live p first flags h i.some ∙ ap (λ (t : Trace). p ∷ t.path) v.is in
        subst (Each (λ q. q < count)) (sym e) (i.inside, each_back first last v.pages v.back)

    pub all_inside : (i : ℕ) (l : List FileRecord) → FilesAre img count f i l → Each (λ q. q < count) (all_pages img count l)
    all_inside i [] a = tt
    all_inside i (g ∷ l) a =
        each_append (λ q. q < count) (pages_of img count g) (all_pages img count l)
        (pages_inside (get_or f.last i 0) (get_or f.first i 0) (get_or f.flags i 0) g a.0) (all_inside (suc i) l a.1)

-- ---- what sound entries name

sound_says : (count : ℕ) (e : Entry) → sound count e ≡ true → (e.last ≡ none → ⊥) → e.last < count
unfolding sound
sound_says count e h n = ltb-true _ _ (rw (ne_eqb e.last none n) at (both (ltb e.file 8) _ h).1)

inside_put : (img : List ℕ) (count : ℕ) (f : Files) (e : Entry) → sound count e ≡ true → Inside img count f → Inside img count (put f e)
unfolding put
inside_put img count f e s a = by (ltb e.file 8)
  where
    one : (i : ℕ) → Dec (i ≡ e.file) → i < 8 → (get_or (set f.last e.file e.last) i 0 ≡ none → ⊥) → get_or (set f.last e.file e.last) i 0 < count
    one i (no n) h k =
        let o : get_or (set f.last e.file e.last) i 0 ≡ get_or f.last i 0 = get_or-set_other f.last e.file i e.last 0 n in
        rw o (a i h (λ z. k (o ∙ z)))
    one i (yes q) h k =
        split (length f.last) e.file
        (λ l. let o : set f.last e.file e.last ≡ f.last = set_out f.last e.file e.last l in
        let g : get_or (set f.last e.file e.last) i 0 ≡ get_or f.last i 0 = ap (λ (l : List ℕ). get_or l i 0) o in
        rw g (a i h (λ z. k (g ∙ z))))
        (λ l. let g : get_or (set f.last e.file e.last) i 0 ≡ e.last = rw q (get_or-set_same f.last e.file e.last 0 l) in
        rw g (sound_says count e s (λ z. k (g ∙ z))))

    by : (t : Bool) → Inside img count (cond t (record { last = set f.last e.file e.last; first = set f.first e.file e.first; flags = set f.flags e.file e.flags }) f)
    by true = λ i h k. one i (ℕ_discrete i e.file) h k
    by false = a

-- so the last pages that a log of sound entries names are below page_count
pub inside_adds : (img : List ℕ) (count : ℕ) (r : Replay) (es : List Entry) → Sound count es → Inside img count r.files → Inside img count (adds count r es).files
inside_adds img count r [] s a = a
inside_adds img count r (e ∷ es) s a = inside_adds img count (add count r e) es s.1 (inside_put img count r.files e s.0 a)

pub inside_none : (img : List ℕ) (count : ℕ) → Inside img count no_files
inside_none img count i h n = absurd (n (get_or-replicate 8 i 65535 0 h))

-- the log's word for sound entries
pub sound_sounds : (count : ℕ) (es : List Entry) → Sound count es → Sounds count es
sound_sounds count [] s = tt
sound_sounds count (e ∷ es) s = (s.0, sound_sounds count es s.1)

pub sounds_sound : (count : ℕ) (es : List Entry) → Sounds count es → Sound count es
sounds_sound count [] s = tt
sounds_sound count (e ∷ es) s = (s.0, sounds_sound count es s.1)
