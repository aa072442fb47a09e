-- Walking back with no more of a header at hand than a step back asks. Assumes nothing: these are definitions.
use Rattle.std.specs.Prelude.{[], ◌∷◌, ℕ, Option, Some, None}
use Rattle.page.specs.Page.{Read}
use Rattle.chain.specs.declared.PagePointer.{PagePointer}
use Rattle.chain.specs.declared.Place.{Place}
use Rattle.chain.specs.declared.Step.{Step}
use Rattle.chain.specs.declared.Step.TheVariants.{Stays, Reaches, Breaks}
use Rattle.chain.specs.Links.{start, link}
use Rattle.chain.specs.Steps.{Stepped, stays, reaches, breaks, Sought, damaged, at, Trace, walk}

abbrev pub place_of : PagePointer → Place
place_of p = record { page_id = p.page_id; seq = start p; link = link p 0 }

-- a page of which no more is known: the rule for a step back sees no difference
abbrev pub wide : Place → PagePointer
wide p = record { page_id = p.page_id; header = record { seq = p.seq; skiplist = p.link ∷ []; record_boundary = 0; length = 0 } }

-- where a step back ends
abbrev pub told_back : Stepped → Step Place
told_back stays = Stays
told_back (reaches q) = Reaches (place_of q)
told_back breaks = Breaks

-- a walk, of whose last page no more is told
abbrev pub thinned : Sought → Sought
thinned damaged = damaged
thinned (at q) = at (wide (place_of q))

abbrev pub thin : Trace → Trace
thin t = record { path = t.path; ends = thinned t.ends }

unfoldable pub walk_back : ℕ → (ℕ → Read) → ℕ → Place → Trace
walk_back count read limit p = thin (walk count read limit (wide p))

-- where a walk back ends, if at a page
abbrev pub reached_by : Sought → Option Place
reached_by damaged = None
reached_by (at q) = Some (place_of q)
