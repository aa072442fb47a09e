-- `chain::prev` meets its contract: the step from the page's place is the step from the page, and the header of the page reached reads.
-- Assumes nothing.
use Rattle.std.specs.Prelude.{Some}
use mathlib.Core.Path.{◌≡◌, refl, sym, ◌∙◌, ap}
use Rattle.page.specs.Page.{gives}
use Rattle.page.specs.declared.DataHeader.{DataHeader}
use Rattle.std.proofs.lemmas.Option.{same_Some}
use Rattle.chain.specs.declared.Place.{Place}
use Rattle.chain.specs.declared.Step.{Step}
use Rattle.chain.specs.declared.Step.TheVariants.{Stays, Reaches, Breaks}
use Rattle.chain.specs.Steps.{read_at, back_rule, step}
use Rattle.chain.specs.Seek.{told}
use Rattle.chain.proofs.Rules.{back_falling}
use Rattle.chain.proofs.Traces.{reaches_stands}
use Rattle.chain.proofs.Places.{BacksTo, backs_from}
use Rattle.chain.proofs.prev.Goals as goal
use Rattle.chain.proofs.prev.Goals.{After-back}

-- what the step from the place says of the page
turn : (g : After-back) (x : Step Place) → g.back.result ≡ x
    → let a = g.args in
    BacksTo (step (back_rule a.count a.limit) (read_at a.image.now) a.p.now) x
turn g x e = backs_from _ _ _ _ x _ g.place_of.ensures (sym e ∙ g.back.ensures)

pub returns-in-Stays : goal.returns-in-Stays
returns-in-Stays c = ap told (sym (turn (goal.at.returns-in-Stays c).After-back Stays c.in-Stays.is))

pub returns-in-Breaks : goal.returns-in-Breaks
returns-in-Breaks c = ap told (sym (turn (goal.at.returns-in-Breaks c).After-back Breaks c.in-Breaks.is))

-- the header of the page reached reads
reads : (g : After-back) (to : Place) (e : g.back.result ≡ Reaches to) → gives (read_at g.args.image.now to.page_id) ≡ Some (turn g (Reaches to) e).0.header
unfolding gives
reads g to e =
    let w = turn g (Reaches to) e in
    ap (λ (y : Place). gives (read_at g.args.image.now y.page_id)) w.2
    ∙ ap gives (reaches_stands (back_rule g.args.count g.args.limit) (back_falling _ _) _ _ w.0 w.1)

pub unwrap-requires : goal.unwrap-requires
unwrap-requires c =
    let r = reads (goal.at.unwrap-requires c).After-back c.in-Reaches.to c.in-Reaches.is in
    rw (c.header_at.ensures, r) refl

pub returns-in-Reaches : goal.returns-in-Reaches
returns-in-Reaches c =
    let g = (goal.at.returns-in-Reaches c).After-back in
    let to = c.in-Reaches.to in
    let w = turn g (Reaches to) c.in-Reaches.is in
    let h : c.unwrap.result ≡ w.0.header = same_Some _ _ (sym c.unwrap.ensures ∙ c.header_at.ensures ∙ reads g to c.in-Reaches.is) in
    ap (λ (y : Place). Reaches (record { page_id = y.page_id; header = c.unwrap.result })) w.2
    ∙ ap (λ (x : DataHeader). Reaches (record { page_id = w.0.page_id; header = x })) h
    ∙ ap told (sym w.1)
