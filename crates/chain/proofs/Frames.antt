-- Stores elsewhere change no trace and no chain. Assumes nothing.
use mathlib.Core.Path.{◌≡◌, refl, sym, ◌∙◌, ap}
use mathlib.Core.List.{List, [], ◌∷◌}
use Prim.Native.Nat.{ℕ}
use Rattle.page.specs.Page.{Read, readable, header_of}
use Rattle.page.specs.Store.{Store, page_at, stored, ran}
use Rattle.page.proofs.Laws.{Every, other_page}
use Rattle.chain.specs.declared.PagePointer.{PagePointer}
use Rattle.chain.specs.Links.{ids, Stand, Chain}
use Rattle.chain.specs.Steps.{read_at, Rule, trace}
use Rattle.chain.specs.Walk.{Each}
use Rattle.chain.specs.Seek.{Agree}
use Rattle.chain.proofs.Traces.{depends}

-- a store to none of these pages
abbrev pub Off : List ℕ → Store → Type 0
Off js s = Each (λ j. j ≡ page_at s → ⊥) js

-- to agree: with oneself, and over a third
pub agree_same : (read : ℕ → Read) (js : List ℕ) → Agree read read js
agree_same read [] = tt
agree_same read (j ∷ js) = (refl, agree_same read js)

pub agree_trans : (a b c : ℕ → Read) (js : List ℕ) → Agree a b js → Agree b c js → Agree a c js
agree_trans a b c [] x y = tt
agree_trans a b c (j ∷ js) x y = (y.0 ∙ x.0, agree_trans a b c js x.1 y.1)

-- it leaves their headers
pub agree_stored : (img : List ℕ) (s : Store) (js : List ℕ) → Off js s → Agree (read_at img) (read_at (stored img s)) js
agree_stored img s [] o = tt
agree_stored img s (j ∷ js) o = (ap header_of (other_page img s j o.0), agree_stored img s js o.1)

pub agree_ran : (img : List ℕ) (l : List Store) (js : List ℕ) → Every (Off js) l → Agree (read_at img) (read_at (ran img l)) js
agree_ran img [] js o = agree_same (read_at img) js
agree_ran img (s ∷ l) js o =
    agree_trans (read_at img) (read_at (stored img s)) (read_at (ran (stored img s) l)) js (agree_stored img s js o.0) (agree_ran (stored img s) l js o.1)

-- stores to pages off the path leave the trace, whatever the rule
pub trace_ran : (r : Rule) (img : List ℕ) (l : List Store) (p : PagePointer) → Every (Off (trace r (read_at img) p).path) l
    → trace r (read_at (ran img l)) p ≡ trace r (read_at img) p
trace_ran r img l p o = depends r (read_at img) (read_at (ran img l)) p (agree_ran img l (trace r (read_at img) p).path o)

-- pages stand in an image that agrees on their headers
pub stand_agree : (read other : ℕ → Read) (l : List PagePointer) → Agree read other (ids l) → Stand read l → Stand other l
stand_agree read other [] a s = tt
stand_agree read other (p ∷ l) a s = (a.0 ∙ s.0, stand_agree read other l a.1 s.1)

-- pages that stand in an image are what their ids say
pub stand_one : (read : ℕ → Read) (l m : List PagePointer) → Stand read l → Stand read m → ids l ≡ ids m → l ≡ m
stand_one read [] [] s u e = refl
stand_one read [] (q ∷ m) s u e = cc
stand_one read (p ∷ l) [] s u e = cc
stand_one read (p ∷ l) (q ∷ m) s u e =
    let i : p.page_id ≡ q.page_id = cc in
    let r : ids l ≡ ids m = cc in
    let a : readable p.header ≡ readable q.header = sym s.0 ∙ ap read i ∙ u.0 in
    let h : p.header ≡ q.header = cc in
    let same : p ≡ q = λ k. record { page_id = i k; header = h k } in
    let rest = stand_one read l m s.1 u.1 r in
    cc

-- and a chain is a chain there
pub chain_agree : (count d : ℕ) (read other : ℕ → Read) (p : PagePointer) (l : List PagePointer) → Agree read other (ids l)
    → Chain count d read p l → Chain count d other p l
chain_agree count d read other p l a c = record { linked = c.linked; stand = stand_agree read other l a c.stand }

-- so stores to pages outside the chain keep it
pub chain_ran : (count d : ℕ) (img : List ℕ) (l : List Store) (p : PagePointer) (older : List PagePointer) → Every (Off (ids older)) l
    → Chain count d (read_at img) p older → Chain count d (read_at (ran img l)) p older
chain_ran count d img l p older o c = chain_agree count d (read_at img) (read_at (ran img l)) p older (agree_ran img l (ids older) o) c
