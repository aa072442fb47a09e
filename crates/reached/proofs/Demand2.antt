-- Where commit succeeds, mount of the image that it leaves succeeds and gives the same eight files. Assumes nothing.
use Rattle.state.specs.Refusals.{Done, fine}
use Rattle.seq.specs.Seed.{seed_after}
use Rattle.state.specs.World.{World, Outcome, ended, after_call}
use Rattle.state.specs.Values.{settled}
use Rattle.chain.specs.Files.{last_of}
use Rattle.chain.specs.Steps.{at}
use Rattle.volume.specs.Mount as VolumeMount
use Rattle.volume.specs.Mount.{good}
use Rattle.volume.specs.Scan.{scan}
use Rattle.transact.specs.Commit.{commit}
use Rattle.owners.specs.Store as st
use Rattle.chain.specs.Seek.{Agree}
use Prim.Native.Nat.{ℕ, ◌+◌, ◌-◌, ◌≤◌, ◌<◌}
use mathlib.Core.Path.{◌≡◌, refl, sym, ap, ap₂, subst, ◌∙◌}
use mathlib.Core.Bool.{Bool, true, false, cond}
use mathlib.Core.List.{List, [], ◌∷◌}
use native.Mathlib.Omega.{arith}
use lib.ListN.{length, get_or}
use Rattle.page.specs.declared.DataHeader.{DataHeader}
use Rattle.state.specs.declared.types.FileRecord.{FileRecord}
use Rattle.state.specs.declared.types.Table.{Table}
use Rattle.state.specs.declared.types.State.{State}
use Rattle.chain.specs.declared.PagePointer.{PagePointer}
use Rattle.reached.specs.Asked.{nowhere, byte, byte_by, byte_at, SameFile, afresh, Again}
use Rattle.reached.proofs.Reach.{Sound}
use Rattle.reached.proofs.Boots.{boots_as}
use Rattle.agree.specs.Good.{RecordOk, Good}
use Rattle.agree.specs.View.{view, as_file, rec_at}
use Rattle.agree.proofs.Commit.{Commits, commit_keeps}
use Rattle.agree.proofs.Found.{Finds, mount_finds}
use Rattle.agree.proofs.Idle.{checked_off}
use Rattle.agree.proofs.Pages.{clash, view_data}
use Rattle.agree.proofs.Records.{file_by, rec_at_lem, file_at_lem}
use Rattle.agree.proofs.Walking.{walk_complete, file_walk}
use Rattle.owners.specs.Moves.{mem_nil}
use Rattle.owners.specs.State.{Base}
use Rattle.owners.specs.Store.{Link, dat, Store, File, live, Owner, Mem, here, there, Walk, FileOk}
use Rattle.owners.proofs.Walks.{shorter_sub, walk_shorter}
use Rattle.page.specs.Page.{page_of, Read, readable, header_of, holds}
use Rattle.state.specs.Checks.{is_mounted}
use Rattle.state.specs.Values.{empty_record, absent, file_at}
use Rattle.chain.specs.Links.{oldest, ids}
use Rattle.chain.specs.Steps.{read_at, back_rule, Trace, walk, visited}
use Rattle.chain.proofs.Traces.{depends}
use Rattle.chain.proofs.Walks.{walk_visits}

-- ---- bytes

-- the byte at a number depends only on the pages that stepping back visits
agree_on : (read other : ℕ → Read) (l : List ℕ) → ((x : ℕ) → Mem x l → other x ≡ read x) → Agree read other l
agree_on read other [] h = tt
agree_on read other (x ∷ l) h = (h x st.here, agree_on read other l (λ y k. h y (st.there k)))

oldest_in : (p : PagePointer) (l : List PagePointer) → Mem (oldest p l).page_id (p.page_id ∷ ids l)
oldest_in p [] = st.here
oldest_in p (q ∷ l) = st.there (oldest_in q l)

pub byte_kept : (img img' : List ℕ) (count : ℕ) (f : FileRecord) (n : ℕ) (e : PagePointer) → (walk count (read_at img) n (last_of f)).ends ≡ at e
    → ((x : ℕ) → Mem x (visited (last_of f) (walk count (read_at img) n (last_of f))) → page_of img' x ≡ page_of img x) → byte_at img' count f n ≡ byte_at img count f n
unfolding byte_at
byte_kept img img' count f n e z h =
    let p = last_of f in
    let t = walk count (read_at img) n p in
    let same : walk count (read_at img') n p ≡ t = depends (back_rule count n) (read_at img) (read_at img') p (agree_on (read_at img) (read_at img') t.path (λ x k. ap header_of (h x (st.there k)))) in
    let v = walk_visits count (read_at img) n p e z in
    let o : t.ends ≡ at (oldest p v.pages) = ap (λ (x : Trace). x.ends) v.is in
    let i : Mem (oldest p v.pages).page_id (visited p t) = subst (λ (x : Trace). Mem (oldest p v.pages).page_id (visited p x)) (sym v.is) (oldest_in p v.pages) in
    ap (byte_by img' n) (ap (λ (x : Trace). x.ends) same ∙ o)
    ∙ ap (λ (pg : List ℕ). cond (holds (oldest p v.pages).header n) (byte (get_or pg (32 + (n - (oldest p v.pages).header.seq)) 0)) nowhere) (h (oldest p v.pages).page_id i)
    ∙ sym (ap (byte_by img n) o)

pub byte_alike : (img : List ℕ) (count : ℕ) (f g : FileRecord) (n : ℕ) → f.last_page ≡ g.last_page → f.header ≡ g.header → byte_at img count f n ≡ byte_at img count g n
unfolding byte_at
byte_alike img count f g n e h = ap₂ (λ (p : ℕ) (d : DataHeader). byte_by img n (walk count (read_at img) n (record { page_id = p; header = d })).ends) e h

-- the same, said of the page at hand
pub bytes_kept : (img img' : List ℕ) (count : ℕ) (f : FileRecord) (n : ℕ) (e : PagePointer) → (walk count (read_at img) n (last_of f)).ends ≡ at e
    → ((x : ℕ) → Mem x (visited (last_of f) (walk count (read_at img) n (last_of f))) → page_of img' x ≡ page_of img x)
    → byte_by img' n (walk count (read_at img') n (last_of f)).ends ≡ byte_by img n (walk count (read_at img) n (last_of f)).ends
unfolding byte_at
bytes_kept img img' count f n e z h = byte_kept img img' count f n e z h

-- ---- two records of one file

pub record Alike (f g : FileRecord) : Type 0 where
  pub last : f.last_page ≡ g.last_page
  pub header : f.header ≡ g.header
  pub first : f.first_seq ≡ g.first_seq
  pub end : f.last_seq ≡ g.last_seq
  pub flags : f.flags ≡ g.flags

pub alike : (img : List ℕ) (f g : FileRecord) → RecordOk img f → RecordOk img g → as_file f ≡ as_file g → Alike f g
alike img f g a c e =
    file_by f
    (λ z y. file_by g
    (λ z' y'. let u = a.empty z in let v = c.empty z' in record { last = z ∙ sym z'; header = u.header ∙ sym v.header; first = u.first ∙ sym v.first; end = u.last ∙ sym v.last; flags = u.flags ∙ sym v.flags })
    (λ z' y'. clash (cc)))
    (λ z y. file_by g (λ z' y'. clash (cc))
    (λ z' y'.
    let q : live f.last_page f.first_seq f.last_seq f.flags ≡ live g.last_page g.first_seq g.last_seq g.flags = sym y ∙ e ∙ y' in
    let l : f.last_page ≡ g.last_page = cc in
    let h : readable f.header ≡ readable g.header = sym (a.stands z) ∙ ap (read_at img) l ∙ c.stands z' in
    record { last = l; header = cc; first = cc; end = cc; flags = cc }))

-- ---- the commit

module _ {D : Type 0} {N : ℕ} {w : World} {b : Base} {own : ℕ → Owner} (g : Good D N w b own) (ok : (commit w).answer ≡ fine) where
  abbrev img' : List ℕ
  img' = (after_call commit w).world.image

  C : Commits D N w (commit w)
  C = commit_keeps g

  abbrev g' : Good D N (after_call commit w).world (commit_keeps g).known.base (commit_keeps g).known.own
  g' = (commit_keeps g).known.good

  abbrev b' : Base
  b' = (commit_keeps g).known.base

  same_table : (after_call commit w).world.table ≡ w.table
  same_table = (commit_keeps g).table

  -- what is committed is the table
  pub tab_is : (i : ℕ) → as_file (rec_at w.table i) ≡ b'.tab i
  tab_is i = ap (λ (t : Table). as_file (rec_at t i)) (sym same_table) ∙ g'.inv.closed ((commit_keeps g).closes ok) i

  rec_ok : (i : ℕ) → RecordOk img' (rec_at w.table i)
  rec_ok i = subst (λ (t : Table). RecordOk img' (rec_at t i)) same_table (g'.sees.recs i)

  -- a page of a file has the bytes that it had
  pub page_same : (x i : ℕ) → b'.own x ≡ st.file i → page_of w.image x ≡ page_of img' x
  page_same x i e =
      let z : view img' x ≡ view w.image x = g'.inv.mounted.same x i e ∙ ap (λ (s : st.Store). s x) ((commit_keeps g).same ok) in
      by (g'.inv.mounted.files i).ok ((g'.inv.mounted.files i).all x e) z
    where
      read : {q n : ℕ} {k : Link} {y : List ℕ} → view img' x ≡ dat q n k y → view img' x ≡ view w.image x → page_of w.image x ≡ page_of img' x
      read v z = sym (view_data w.image x (sym z ∙ v)).bytes ∙ (view_data img' x v).bytes

      on_walk : {a : ℕ} {l : List ℕ} {p : ℕ} → Walk (view img') b'.pc a p l → Mem x l → view img' x ≡ view w.image x → page_of w.image x ≡ page_of img' x
      on_walk (st.stop v a) st.here z = read v z
      on_walk (st.root v a) st.here z = read v z
      on_walk (st.step v a c v' d u) st.here z = read v z
      on_walk (st.step v a c v' d u) (st.there m) z = on_walk u m z
      on_walk (st.stop v a) (there m) z = elim m [ ]
      on_walk (st.root v a) (there m) z = elim m [ ]

      by : {f : File} {l : List ℕ} → FileOk (view img') b'.pc f l → Mem x l → view img' x ≡ view w.image x → page_of w.image x ≡ page_of img' x
      by st.empty m z = absurd (mem_nil m refl)
      by (st.full a h c d e u) m z = on_walk u m z

  -- the byte at a live number: the same before the commit and after it
  bytes_same : (i n : ℕ) → (rec_at w.table i).first_seq ≤ n → n < (rec_at w.table i).last_seq → byte_at w.image b'.pc (rec_at w.table i) n ≡ byte_at img' b'.pc (rec_at w.table i) n
  bytes_same i n low high =
      let r = rec_at w.table i in
      file_by r
      (λ z e. absurd (omega (arith, ((rec_ok i).empty z).last)))
      (λ z e.
      let M = g'.inv.mounted in
      let u = file_walk (M.files i).ok (sym (tab_is i) ∙ e) in
      let s = walk_shorter n u low in
      let c = walk_complete img' b'.pc n (last_of r) ((rec_ok i).stands z) s.walk in
      byte_kept img' w.image b'.pc r n c.last c.ends
      (λ x k. page_same x i ((M.files i).mine x (shorter_sub s x (subst (Mem x) c.pages k)))))

  -- ---- the mount of what it leaves

  module _ (m : List ℕ) (t : Table) (s : State) (size : length m ≡ length w.map) where
    abbrev v : World
    v = afresh w m t s

    abbrev F : Finds img' g'.inv.mounted
    F = mount_finds img' g'.inv.mounted g'.sees.bytes

    n_is : length m ≡ N
    n_is = size ∙ g.sees.owners.size

    mount_is : VolumeMount.mount (afresh w m t s) ≡ VolumeMount.mounted_as (afresh w m t s) (length m) (seed_after s.seed) (scan img' (length m)) (good F.loaded)
    mount_is = boots_as g' m t s n_is

    pub mounted_again : Again w m t s
    unfolding settled
    mounted_again =
        record {
          mounts = ap (λ (o : Outcome Done). o.answer) mount_is;
          files = λ i h. subst (λ (o : Outcome Done). SameFile w (ended v o).world i) (sym mount_is) (same_file i h);
        }
      where
        count_is : (scan img' (length m)).page_count ≡ b'.pc
        count_is = subst (λ (k : ℕ). (scan img' k).page_count ≡ b'.pc) (sym n_is) F.count

        pc_is : w.state.page_count ≡ b'.pc
        pc_is = sym (commit_keeps g).count ∙ g'.sees.pc

        same_file : (i : ℕ) → i < 8 → SameFile w (ended v (VolumeMount.mounted_as v (length m) (seed_after s.seed) (scan img' (length m)) (good F.loaded))).world i
        same_file i h =
            let f = rec_at w.table i in
            let r = get_or F.loaded.files i empty_record in
            let k = F.files i h in
            let a = alike img' f r (rec_ok i) k.ok (tab_is i ∙ sym k.is) in
            let l₁ : i < length w.table.files = omega (arith, g.sees.eight) in
            let l₂ : i < length F.loaded.files = omega (arith, F.size) in
            let e₁ = file_at_lem w.table i l₁ in
            let e₂ : get_or F.loaded.files i absent ≡ r = rec_at_lem F.loaded.files i absent empty_record l₂ in
            let al = subst (λ (y : FileRecord). Alike (file_at w.table i) y) (sym e₂) (subst (λ (y : FileRecord). Alike y r) (sym e₁) a) in
            record {
              last = al.last;
              header = al.header;
              first_seq = al.first;
              last_seq = al.end;
              flags = al.flags;
              bytes = λ n low high.
                  ap (λ (c : ℕ). byte_at w.image c (file_at w.table i) n) pc_is
                  ∙ subst (λ (y : FileRecord). byte_at w.image b'.pc y n ≡ byte_at img' b'.pc y n) (sym e₁)
                  (bytes_same i n (subst (λ (y : FileRecord). y.first_seq ≤ n) e₁ low) (subst (λ (y : FileRecord). n < y.last_seq) e₁ high))
                  ∙ byte_alike img' b'.pc (file_at w.table i) (get_or F.loaded.files i absent) n al.last al.header
                  ∙ ap (λ (c : ℕ). byte_at img' c (get_or F.loaded.files i absent) n) (sym count_is);
            }

-- nothing is committed where nothing is mounted
off_answer : (w : World) → is_mounted w.state ≡ false → (commit w).answer ≡ fine → ⊥
unfolding commit
off_answer w e = checked_off (λ (o : Outcome Done). o.answer ≡ fine → ⊥) w _ _ _ _ e (λ why h. clash cc)

-- DEMAND 2
pub sound_commit : {w : World} → Sound w → (commit w).answer ≡ fine → (m : List ℕ) (t : Table) (s : State) → length m ≡ length w.map → Again w m t s
sound_commit {w} k ok m t s h = by (is_mounted w.state) refl
  where
    by : (c : Bool) → is_mounted w.state ≡ c → Again w m t s
    by true e = mounted_again (k.mounted e).good ok m t s h
    by false e = absurd (off_answer w e ok)
