-- The best metadata page, by document 01, "Mount": among readable metadata headers the highest seq above 0, the lower id on a tie.
-- Assumes nothing: these are definitions.
use Rattle.std.specs.Prelude.{ℕ, zero, suc, cond, List, ltb, Option, Some, None}
use Rattle.page.specs.declared.MetaHeader.{MetaHeader}
use Rattle.page.specs.Page.{page_of, meta_of}
use Rattle.volume.specs.declared.Best.{Best}

-- the code's Best: seq 0 is none yet
abbrev pub no_best : Best
no_best = record { page = 0; page_count = 0; seq = 0 }

abbrev pub best_of : ℕ → MetaHeader → Best
best_of p m = record { page = p; page_count = m.page_count; seq = m.seq }

-- the better of the best so far and page p: only a higher seq replaces it
unfoldable pub better : Best → ℕ → Option MetaHeader → Best
better b p None = b
better b p (Some m) = cond (ltb b.seq m.seq) (best_of p m) b

-- of the first n pages
unfoldable pub scan : List ℕ → ℕ → Best
scan img zero = no_best
scan img (suc n) = better (scan img n) n (meta_of (page_of img n))
