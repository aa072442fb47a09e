-- The code's next page, by what its parts leave. Assumes nothing.
use Rattle.std.specs.Prelude.{Option, Some, None}
use Prim.Native.Nat.{ℕ, ◌<◌}
use mathlib.Core.Path.{◌≡◌, sym, ap, ◌∙◌}
use mathlib.Core.List.{List}
use native.Mathlib.Omega.{arith}
use borrow.Author.Tests.{ne_eqb}
use lib.ListN.{take}
use Rattle.page.specs.declared.DataHeader.{DataHeader}
use Rattle.page.specs.Store.{ran, data_stores}
use Rattle.map.specs.Map.{alloc_of, used_by, beyond, allocated, leaves as gives}
use Rattle.map.proofs.Laws.{allocated_answer, allocated_left, alloc_found}
use Rattle.state.specs.declared.types.Writer.{Writer}
use Rattle.state.specs.declared.types.State.{State}
use Rattle.state.specs.Values.{with_cursor, with_writer}
use Rattle.writer.specs.Staging.{staged_links, staged_header, flush_stores, on_page, space}
use Rattle.writer.specs.Write.{Writing, staged, next_page, ready}
use Rattle.writer.specs.Inner.{stores_of, unstaged, begins, wrote, writes}
use Rattle.writer.proofs.Sounds.{flushes, next_is}

-- ---- an allocation, as the code has it

pub alloc_told : (m m' : List ℕ) (count cursor : ℕ) (a : Option ℕ) → gives a m' ≡ allocated m count cursor
    → (alloc_of m count cursor ≡ a) × (m' ≡ used_by m a)
alloc_told m m' count cursor a e =
    let f = sym (allocated_answer m m' count cursor a e) in
    (f, allocated_left m m' count cursor a e ∙ ap (used_by m) f)

pub alloc_small : (m m' : List ℕ) (count cursor i : ℕ) (a : Option ℕ) → gives a m' ≡ allocated m count cursor → a ≡ Some i → cursor < count → i < count
alloc_small m m' count cursor i a e p h =
    (alloc_found m count cursor (omega arith) i ((alloc_told m m' count cursor a e).0 ∙ p)).inside

-- ---- a flush

-- the stores of a page by its header
pub flush_by : (w : Writer) (h : DataHeader) → h ≡ staged_header w → data_stores w.page h (take h.length w.staged) ≡ flush_stores w
unfolding staged_header staged_links
flush_by w h e = rw e

-- ---- the next page

module _ (img m : List ℕ) (s : State) (img' m' : List ℕ) (v : Writer) (a : Option ℕ)
    (ei : img' ≡ ran img (stores_of s.writer)) (ev : v ≡ unstaged s.writer)
    (ea : a ≡ alloc_of m s.page_count s.cursor) (em : m' ≡ used_by m a) where
  from : wrote img s (next_page s.page_count (begins m s)) ≡ wrote img s (staged s.page_count (flushes (begins m s)) a)
  from =
      ap (wrote img s) (next_is s.page_count (begins m s))
      ∙ ap (λ (z : Option ℕ). wrote img s (staged s.page_count (flushes (begins m s)) z)) (sym ea)

  pub next_page_lem : (i : ℕ) → a ≡ Some i
      → writes img' m' (with_writer (with_cursor s (beyond s.page_count i)) (on_page v i)) ≡ wrote img s (next_page s.page_count (begins m s))
  unfolding on_page
  next_page_lem i e = sym (from ∙ rw (em, e, ev, ei))

  pub next_full : a ≡ None → writes img' m' (with_writer s v) ≡ wrote img s (next_page s.page_count (begins m s))
  unfolding with_writer with_cursor
  next_full e = sym (from ∙ rw (em, e, ev, ei))

-- ---- whether one is needed

pub ready_here : (count : ℕ) (x : Writing) → (space x.writer ≡ 0 → ⊥) → ready count x ≡ x
unfolding ready
ready_here count x n = rw (ne_eqb (space x.writer) 0 n)
