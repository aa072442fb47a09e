-- Page ids, by document 01, "Numbers" and leaf 1: 65535 is never a page. Assumes nothing: these are definitions.
use Rattle.std.specs.Prelude.{ℕ, Option, Some, None, cond, eqb}
use Rattle.seq.specs.declared.ids.PageID.{PageID}

abbrev pub none : ℕ
none = 65535

abbrev pub page_of : ℕ → PageID
page_of n = record { raw = n }

-- the page of a raw id, or none
abbrev pub option_of : ℕ → Option PageID
option_of n = cond (eqb n none) None (Some (page_of n))

abbrev pub raw_of : Option PageID → ℕ
raw_of (Some p) = p.raw
raw_of None = none
