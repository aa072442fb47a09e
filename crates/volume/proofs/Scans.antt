-- The scan: a page more, and what the best of some pages is. Assumes nothing.
use Rattle.std.specs.Prelude.{Option, Some, None}
use mathlib.Core.Path.{◌≡◌, refl, sym, ap, ◌∙◌}
use mathlib.Core.Bool.{Bool, true, false, cond}
use mathlib.Core.List.{List}
use Prim.Native.Nat.{ℕ, zero, suc, ◌+◌, ◌≤◌, ◌<◌}
use native.Mathlib.Numerals.{add-one}
use native.Mathlib.Omega.{arith}
use borrow.Author.Tests.{ltb-true, ltb-false}
use lib.Dec.{ltb}
use Rattle.page.specs.declared.MetaHeader.{MetaHeader}
use Rattle.page.specs.Page.{page_of, meta_of}
use Rattle.page.proofs.Laws.{split}
use Rattle.std.proofs.lemmas.Option.{same_Some}
use Rattle.volume.specs.declared.Best.{Best}
use Rattle.volume.specs.Scan.{best_of, better, scan}
use Rattle.volume.specs.Mounted.{Wins}

-- ---- a page more

pub scan_more : (img : List ℕ) (n : ℕ) (b : Best) → b ≡ scan img n → better b n (meta_of (page_of img n)) ≡ scan img (n + 1)
unfolding scan
scan_more img n b e = rw (add-one n, e)

-- ---- what the best is

-- of the first n pages, whether one was found or not
pub record Scanned (img : List ℕ) (n : ℕ) (b : Best) : Type 0 where
  pub most : (q : ℕ) (m : MetaHeader) → q < n → meta_of (page_of img q) ≡ Some m → m.seq ≤ b.seq
  pub wins : 1 ≤ b.seq → Wins img n b

module _ (img : List ℕ) where
  -- the page under n, or an earlier one
  below : {R : Type 0} (n q : ℕ) → q < suc n → (q < n → R) → (q ≡ n → R) → R
  below n q h f g = split n q (λ k. g (omega arith)) f

  scanned_better : (n : ℕ) (b : Best) (x : Option MetaHeader) → meta_of (page_of img n) ≡ x → Scanned img n b → Scanned img (suc n) (better b n x)
  unfolding better
  scanned_better n b None e s =
      record {
        most = λ q m h r. below n q h (λ k. s.most q m k r) (λ k. let z : None ≡ Some m = sym e ∙ ap (λ (q : ℕ). meta_of (page_of img q)) (sym k) ∙ r in cc);
        wins = λ o. let w = s.wins o in record {
          inside = omega (arith, w.inside);
          reads = w.reads;
          some = w.some;
          most = λ q m h r. below n q h (λ k. s.most q m k r) (λ k. let z : None ≡ Some m = sym e ∙ ap (λ (q : ℕ). meta_of (page_of img q)) (sym k) ∙ r in cc);
          lowest = w.lowest;
        };
      }
  scanned_better n b (Some m₀) e s = by (ltb b.seq m₀.seq) refl
    where
      same : (q : ℕ) (m : MetaHeader) → q ≡ n → meta_of (page_of img q) ≡ Some m → m ≡ m₀
      same q m k r = let z : Some m ≡ Some m₀ = sym r ∙ ap (λ (q : ℕ). meta_of (page_of img q)) k ∙ e in cc

      by : (t : Bool) → ltb b.seq m₀.seq ≡ t → Scanned img (suc n) (cond t (best_of n m₀) b)
      by true t =
          let l : b.seq < m₀.seq = ltb-true _ _ t in
          let top : (q : ℕ) (m : MetaHeader) → q < suc n → meta_of (page_of img q) ≡ Some m → m.seq ≤ m₀.seq =
          λ q m h r. below n q h (λ k. omega (arith, s.most q m k r)) (λ k. omega (arith, ap (λ (m : MetaHeader). m.seq) (same q m k r))) in record {
            most = top;
            wins = λ o. record { inside = omega arith; reads = e; some = o; most = top; lowest = λ q m h r. omega (arith, s.most q m h r) };
          }
      by false t =
          let l : m₀.seq ≤ b.seq = ltb-false _ _ t in
          let top : (q : ℕ) (m : MetaHeader) → q < suc n → meta_of (page_of img q) ≡ Some m → m.seq ≤ b.seq =
          λ q m h r. below n q h (λ k. s.most q m k r) (λ k. omega (arith, ap (λ (m : MetaHeader). m.seq) (same q m k r))) in record {
            most = top;
            wins = λ o. let w = s.wins o in
                record { inside = omega (arith, w.inside); reads = w.reads; some = o; most = top; lowest = w.lowest };
          }

  pub scanned : (n : ℕ) → Scanned img n (scan img n)
  unfolding scan
  scanned zero = record { most = λ q m h r. absurd (omega arith); wins = λ o. absurd (omega arith) }
  scanned (suc n) = scanned_better n (scan img n) (meta_of (page_of img n)) refl (scanned n)

  -- a scan that finds a page finds the best
  pub scan_wins : (n : ℕ) → 1 ≤ (scan img n).seq → Wins img n (scan img n)
  scan_wins n h = (scanned n).wins h

  -- there is only one best
  pub wins_one : (n : ℕ) (a b : Best) → Wins img n a → Wins img n b → a ≡ b
  wins_one n a b v w =
      let s : a.seq ≡ b.seq = omega (arith, v.most b.page _ w.inside w.reads, w.most a.page _ v.inside v.reads) in
      let p : a.page ≡ b.page = split a.page b.page
      (λ h. split b.page a.page (λ k. omega arith) (λ k. absurd (omega (arith, w.lowest a.page _ k v.reads))))
      (λ h. absurd (omega (arith, v.lowest b.page _ h w.reads))) in
      let r : Some (record { page_count = a.page_count; seq = a.seq }) ≡ Some (record { page_count = b.page_count; seq = b.seq }) =
      sym v.reads ∙ ap (λ (q : ℕ). meta_of (page_of img q)) p ∙ w.reads in
      let h = same_Some _ _ r in
      let c : a.page_count ≡ b.page_count = ap (λ (m : MetaHeader). m.page_count) h in
      λ i. record { page = p i; page_count = c i; seq = s i }

  -- so the best is what a scan finds
  pub wins_scan : (n : ℕ) (b : Best) → Wins img n b → scan img n ≡ b
  wins_scan n b w =
      wins_one n (scan img n) b (scan_wins n (omega (arith, w.some, (scanned n).most b.page _ w.inside w.reads))) w
