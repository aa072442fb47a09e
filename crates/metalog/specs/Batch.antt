-- A batch written, by document 01, "Layout" and commit: the bytes of its entries, the marked files in id order, and the stores.
-- Batch: entries, then the count pair. New metadata page: erase, entries, count pair, page header last; with no file, no batch.
-- Assumes nothing.
use Rattle.std.specs.Prelude.{ℕ, zero, suc, ◌+◌, ◌-◌, ◌<◌, List, [], ◌∷◌, ◌++◌, Bool, false, cond, length, get_or}
use Rattle.runs.specs.Runs.{by16, by32}
use Rattle.page.specs.declared.MetaHeader.{MetaHeader}
use Rattle.page.specs.Store.{Store, erase, program, meta_store}
use Rattle.metalog.specs.declared.Entry.{Entry}
use Rattle.metalog.specs.declared.Files.{Files}
use Rattle.metalog.specs.Log.{log_start, pair_size, batch_size}

-- ---- bytes

abbrev pub entry_before : Entry → List ℕ → List ℕ
entry_before e bs = e.file ∷ e.flags ∷ by16 e.last (by32 e.first bs)

abbrev pub entry_bytes : Entry → List ℕ
entry_bytes e = entry_before e []

abbrev pub entries_bytes : List Entry → List ℕ
entries_bytes [] = []
entries_bytes (e ∷ es) = entry_before e (entries_bytes es)

abbrev pub pair_bytes : ℕ → List ℕ
pair_bytes n = by16 n (by16 (65535 - n) [])

-- ---- the marked files

-- a file's entry
abbrev pub entry_for : Files → ℕ → Entry
entry_for f i = record { file = i; flags = get_or f.flags i 0; last = get_or f.last i 0; first = get_or f.first i 0 }

-- of the n files from i on, in id order
abbrev pub chosen_from : Files → List Bool → ℕ → ℕ → List Entry
chosen_from f marks i zero = []
chosen_from f marks i (suc n) = cond (get_or marks i false) (entry_for f i ∷ []) [] ++ chosen_from f marks (suc i) n

unfoldable pub chosen : Files → List Bool → List Entry
chosen f marks = chosen_from f marks 0 8

-- how many they are
abbrev pub marked_from : List Bool → ℕ → ℕ → ℕ
marked_from marks i zero = 0
marked_from marks i (suc n) = cond (get_or marks i false) 1 0 + marked_from marks (suc i) n

unfoldable pub marked : List Bool → ℕ
marked marks = marked_from marks 0 8

-- ---- stores

-- the entries of a batch at offset e of the log of page p, and its count pair
abbrev pub entries_store : ℕ → ℕ → List Entry → Store
entries_store p e es = program p (log_start + (e + pair_size)) (entries_bytes es)

abbrev pub pair_store : ℕ → ℕ → ℕ → Store
pair_store p e n = program p (log_start + e) (pair_bytes n)

unfoldable pub batch_stores : ℕ → ℕ → List Entry → List Store
batch_stores p e [] = []
batch_stores p e (x ∷ es) = entries_store p e (x ∷ es) ∷ pair_store p e (length (x ∷ es)) ∷ []

-- where the log ends after them
abbrev pub end_after : ℕ → List Entry → ℕ
end_after e [] = e
end_after e (x ∷ es) = e + batch_size (length (x ∷ es))

unfoldable pub new_meta_stores : ℕ → MetaHeader → List Entry → List Store
new_meta_stores p m es = erase p ∷ batch_stores p 0 es ++ meta_store p m ∷ []

-- ---- what the code's types already say

abbrev pub Fit : List Entry → Type 0
Fit [] = Unit {0}
Fit (e ∷ es) = (e.file < 256) × (e.flags < 256) × (e.last < 65536) × (e.first < 4294967296) × Fit es
