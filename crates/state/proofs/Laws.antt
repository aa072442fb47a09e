-- What calls share: a refusal changes nothing, and what the passed checks say. Assumes nothing.
use Rattle.std.specs.Prelude.{Err}
use Rattle.state.specs.Refusals.{fine}
use mathlib.Core.Path.{◌≡◌, refl}
use mathlib.Core.Bool.{Bool, true, false, cond, ◌&&◌, ◌||◌, not, and-eq-true_iff}
use Prim.Native.Nat.{ℕ, ◌+◌, ◌*◌, ◌<◌, ◌≤◌}
use native.Mathlib.Omega.{arith}
use borrow.Author.Tests.{ltb-true, ltb-false, leb-true, eqb-true}
use lib.Dec.{leb, ltb, eqb}
use Rattle.seq.specs.Seq.{limit}
use Rattle.state.specs.declared.types.FileRecord.{FileRecord}
use Rattle.state.specs.declared.types.Writer.{Writer}
use Rattle.state.specs.declared.types.Search.{Search}
use Rattle.state.specs.declared.types.State.{State}
use Rattle.state.specs.declared.types.Refusal.{Refusal}
use Rattle.state.specs.declared.types.Refusal.TheVariants.{BadSize, NotMounted, Busy, BadFile}
use Rattle.state.specs.Values.{in_shape}
use Rattle.state.specs.Checks.{sizes, id_ok, writer_ok, search_ok, is_mounted, wrong_size, checks}
use Rattle.state.specs.World.{World, ended, kept, refuse}

-- ---- outcomes

-- an answer without stores leaves the world as it was
pub kept_world : {A : Type 0} (w : World) (a : A) → (ended w (kept w a)).world ≡ w
kept_world w a = refl

-- so does a refusal
pub refuse_world : (w : World) (why : Refusal) → (ended w (refuse w why)).world ≡ w
refuse_world w why = refl

-- ---- tests

-- both tests of a passed pair passed
pub both : (a b : Bool) → (a && b) ≡ true → (a ≡ true) × (b ≡ true)
both a b = (and-eq-true_iff a b).0

-- an alternative whose first test fails is its second
pub second : (a b : Bool) → (not a || b) ≡ true → a ≡ true → b ≡ true
second true b h e = h
second false b h e = let z : ◌≡◌ {A = ℕ} 0 1 = cc in absurd (omega arith)

pub sizes_say : (image map : ℕ) → sizes image map ≡ true → (4 ≤ map) × (map ≤ 1024) × (image ≡ 256 * map)
unfolding sizes
sizes_say image map h =
    let a = both (leb map 1024) _ h in
    let b = both (leb 4 map) _ a.1 in
    (leb-true 4 map b.0, leb-true map 1024 a.0, eqb-true image (256 * map) b.1)

-- ---- a state that counts as mounted

pub record MountedState (s : State) : Type 0 where
  pub low : 4 ≤ s.pages
  pub high : s.pages ≤ 1024
  pub some : 1 ≤ s.page_count
  pub inside : s.page_count ≤ s.pages
  pub meta : s.meta_page < s.page_count
  pub cursor : s.cursor < s.page_count
  pub writer : writer_ok s.page_count s.writer ≡ true
  pub search : search_ok s.search ≡ true

pub mounted_says : (s : State) → is_mounted s ≡ true → MountedState s
unfolding is_mounted
mounted_says s h =
    let a = both _ (search_ok s.search) h in
    let b = both _ (writer_ok s.page_count s.writer) a.0 in
    let c = both _ (ltb s.meta_page s.page_count && ltb s.cursor s.page_count) b.0 in
    let d = both s.mounted _ c.0 in
    let e = both _ (leb s.page_count s.pages) d.1 in
    let f = both _ (leb 1 s.page_count) e.0 in
    let g = both (leb 4 s.pages) (leb s.pages 1024) f.0 in
    let k = both (ltb s.meta_page s.page_count) (ltb s.cursor s.page_count) c.1 in
    record {
      low = leb-true _ _ g.0;
      high = leb-true _ _ g.1;
      some = leb-true _ _ f.1;
      inside = leb-true _ _ e.1;
      meta = ltb-true _ _ k.0;
      cursor = ltb-true _ _ k.1;
      writer = b.1;
      search = a.1;
    }

-- an open writer of one
pub record OpenWriter (count : ℕ) (w : Writer) : Type 0 where
  pub file : w.file ≤ 7
  pub length : w.length ≤ 224
  pub page : id_ok count w.page ≡ true
  pub copied : id_ok count w.copied ≡ true
  pub previous : id_ok count w.previous ≡ true
  pub end : w.seq + w.length ≤ limit
  pub stored : w.stored ≤ w.seq

pub writer_says : (count : ℕ) (w : Writer) → writer_ok count w ≡ true → w.active ≡ true → OpenWriter count w
unfolding writer_ok
writer_says count w h on =
    let a = both _ (leb w.stored w.seq) (second w.active _ h on) in
    let b = both _ (leb (w.seq + w.length) limit) a.0 in
    let c = both (leb w.file 7 && leb w.length 224) _ b.0 in
    let d = both (leb w.file 7) _ c.0 in
    let e = both (id_ok count w.page && id_ok count w.copied) _ c.1 in
    let f = both (id_ok count w.page) _ e.0 in
    record {
      file = leb-true _ _ d.0;
      length = leb-true _ _ d.1;
      page = f.0;
      copied = f.1;
      previous = e.1;
      end = leb-true _ _ b.1;
      stored = leb-true _ _ a.1;
    }

-- an open search of one
pub record OpenSearch (q : Search) : Type 0 where
  pub file : q.file ≤ 7
  pub left : q.left ≤ limit
  pub right : q.right ≤ limit
  pub result : q.result ≤ limit
  pub low : q.low ≤ limit
  pub mid : q.mid ≤ limit
  pub high : q.high ≤ limit

pub search_says : (q : Search) → search_ok q ≡ true → q.active ≡ true → OpenSearch q
unfolding search_ok
search_says q h on =
    let a = both (leb q.file 7 && (leb q.left limit && leb q.right limit && leb q.result limit)) _ (second q.active _ h on) in
    let b = both (leb q.file 7) _ a.0 in
    let c = both (leb q.left limit && leb q.right limit) _ b.1 in
    let d = both (leb q.left limit) _ c.0 in
    let e = both (leb q.low limit && leb q.mid limit) _ a.1 in
    let f = both (leb q.low limit) _ e.0 in
    record {
      file = leb-true _ _ b.0;
      left = leb-true _ _ d.0;
      right = leb-true _ _ d.1;
      result = leb-true _ _ c.1;
      low = leb-true _ _ f.0;
      mid = leb-true _ _ f.1;
      high = leb-true _ _ e.1;
    }

-- ---- checks 1 to 4 passed

pub record Passed (image map : ℕ) (s : State) (busy : Bool) (file : ℕ) : Type 0 where
  pub whole : image ≡ 256 * map
  pub pages : map ≡ s.pages
  pub mounted : MountedState s
  pub idle : busy ≡ false
  pub known : file ≤ 7

pub checks_pass : (image map : ℕ) (s : State) (busy : Bool) (file : ℕ) → checks image map s busy file ≡ fine → Passed image map s busy file
unfolding checks wrong_size
checks_pass image map s busy file =
    go (sizes image map) refl (is_mounted s) refl (eqb map s.pages) refl busy refl (ltb 7 file) refl
  where
    go : (a : Bool) → sizes image map ≡ a → (m : Bool) → is_mounted s ≡ m → (e : Bool) → eqb map s.pages ≡ e → (b : Bool) → busy ≡ b → (f : Bool) → ltb 7 file ≡ f
        → cond (not a || m && not e) (Err BadSize) (cond m (cond b (Err Busy) (cond f (Err BadFile) fine)) (Err NotMounted)) ≡ fine
        → Passed image map s busy file
    go true ha true hm true he false hb false hf h =
        record {
          whole = (sizes_say image map ha).2;
          pages = eqb-true _ _ he;
          mounted = mounted_says s hm;
          idle = hb;
          known = ltb-false _ _ hf;
        }
    go false ha m hm e he b hb f hf h = let z : ◌≡◌ {A = ℕ} 0 1 = cc in absurd (omega arith)
    go true ha false hm e he b hb f hf h = let z : ◌≡◌ {A = ℕ} 0 1 = cc in absurd (omega arith)
    go true ha true hm false he b hb f hf h = let z : ◌≡◌ {A = ℕ} 0 1 = cc in absurd (omega arith)
    go true ha true hm true he true hb f hf h = let z : ◌≡◌ {A = ℕ} 0 1 = cc in absurd (omega arith)
    go true ha true hm true he false hb true hf h = let z : ◌≡◌ {A = ℕ} 0 1 = cc in absurd (omega arith)

-- ---- a record in shape

pub record Shaped (count : ℕ) (f : FileRecord) : Type 0 where
  pub inside : f.last_page < count
  pub low : 1 ≤ f.header.length
  pub high : f.header.length ≤ 224
  pub end : f.header.seq + f.header.length ≡ f.last_seq
  pub some : f.first_seq < f.last_seq

pub shape_says : (count : ℕ) (f : FileRecord) → in_shape count f ≡ true → Shaped count f
unfolding in_shape
shape_says count f h =
    let a = both _ (ltb f.first_seq f.last_seq) h in
    let b = both _ (eqb (f.header.seq + f.header.length) f.last_seq) a.0 in
    let c = both _ (leb f.header.length 224) b.0 in
    let d = both (ltb f.last_page count) _ c.0 in
    record {
      inside = ltb-true _ _ d.0;
      low = leb-true _ _ d.1;
      high = leb-true _ _ c.1;
      end = eqb-true _ _ b.1;
      some = ltb-true _ _ a.1;
    }
