-- The cycle of calls really_seek, seek_to_page.
-- Assumes nothing.
use Rattle.std.specs.Prelude.{Some, None}
use mathlib.Core.Path.{sym, ◌∙◌, ap}
use native.Mathlib.Omega.{arith}
use Rattle.chain.specs.Steps.{read_at}
use Rattle.search.specs.declared.hunt.Offer.{Offer}
use Rattle.search.specs.Hunt.{offered}
use Rattle.search.specs.Told.{told}
use Rattle.search.proofs.Levels.{aim_told, past_last, past_down, at_page, on_none, on_wrong, on_hit, on_left_last, on_left_down, on_back}
use Rattle.search.proofs.hunt.+really_seek_seek_to_page.Goals as goal

pub really_seek-returns-then-level-eq0 : goal.really_seek-returns-then-level-eq0
really_seek-returns-then-level-eq0 t c =
    let a = c.args in
    let s = a.s.now in
    past_last a.count (read_at a.image.now) s.right s.links a.level a.left (aim_told a.left s.right s.links a.level None (sym c.in_default.is ∙ c.aim_at.ensures.aim)) c.if-level-eq0.true

pub really_seek-returns : goal.really_seek-returns
really_seek-returns t c =
    let a = c.args in
    let s = a.s.now in
    c.really_seek.ensures
    ∙ past_down a.count (read_at a.image.now) s.right s.links a.level a.left (aim_told a.left s.right s.links a.level None (sym c.in_default.is ∙ c.aim_at.ensures.aim)) c.if-level-eq0.false

pub really_seek-seek_to_page-requires : goal.really_seek-seek_to_page-requires
really_seek-seek_to_page-requires t c =
    omega (arith, c.in-Some.ensures.bound, c.requires, c.if-prove.false)

pub really_seek-returns-in-Some : goal.really_seek-returns-in-Some
really_seek-returns-in-Some t c =
    let a = c.args in
    let s = a.s.now in
    c.seek_to_page.ensures
    ∙ at_page a.count (read_at a.image.now) s.right s.links a.level a.left _ _ (aim_told a.left s.right s.links a.level (Some _) (sym c.in-Some.is ∙ c.aim_at.ensures.aim))

pub seek_to_page-returns-in_default : goal.seek_to_page-returns-in_default
seek_to_page-returns-in_default t c =
    let a = c.args in
    let s = a.s.now in
    on_none a.count (read_at a.image.now) s.right s.links a.level a.left a.target a.limit a.id (sym c.in_default.is ∙ c.header_at.ensures)

pub seek_to_page-returns-in-Wrong : goal.seek_to_page-returns-in-Wrong
seek_to_page-returns-in-Wrong t c =
    let a = c.args in
    let s = a.s.now in
    on_wrong a.count (read_at a.image.now) s.right s.links a.level a.left a.target a.limit a.id _ _ (sym c.in-Some.is ∙ c.header_at.ensures) c.seen_on.ensures c.in-Wrong.is

pub seek_to_page-offer_on-requires : goal.seek_to_page-offer_on-requires
seek_to_page-offer_on-requires t c = omega (arith, c.seen_on.ensures.fits c.in-Hit.is, c.ranges.limit)

pub seek_to_page-returns-in-Hit : goal.seek_to_page-returns-in-Hit
seek_to_page-returns-in-Hit t c =
    let a = c.args in
    let s = a.s.now in
    ap (λ (o : Offer). told (offered a.left o)) c.offer_on.ensures
    ∙ on_hit a.count (read_at a.image.now) s.right s.links a.level a.left a.target a.limit a.id _ _ (sym c.in-Some.is ∙ c.header_at.ensures) c.seen_on.ensures c.in-Hit.is

pub seek_to_page-returns-then-level-eq0 : goal.seek_to_page-returns-then-level-eq0
seek_to_page-returns-then-level-eq0 t c =
    let a = c.args in
    let s = a.s.now in
    on_left_last a.count (read_at a.image.now) s.right s.links a.level a.left a.target a.limit a.id _ _ (sym c.in-Some.is ∙ c.header_at.ensures) c.seen_on.ensures c.in-TooLeft.is c.if-level-eq0.true

pub seek_to_page-returns-else-level-eq0 : goal.seek_to_page-returns-else-level-eq0
seek_to_page-returns-else-level-eq0 t c =
    let a = c.args in
    let s = a.s.now in
    c.really_seek.ensures
    ∙ on_left_down a.count (read_at a.image.now) s.right s.links a.level a.left a.target a.limit a.id _ _ (sym c.in-Some.is ∙ c.header_at.ensures) c.seen_on.ensures c.in-TooLeft.is c.if-level-eq0.false

pub seek_to_page-seek_to_page-requires : goal.seek_to_page-seek_to_page-requires
seek_to_page-seek_to_page-requires t c = omega (arith, c.seen_on.ensures.falls c.in-Back.is)

pub seek_to_page-returns-in-Back : goal.seek_to_page-returns-in-Back
seek_to_page-returns-in-Back t c =
    let a = c.args in
    let s = a.s.now in
    c.seek_to_page.ensures
    ∙ on_back a.count (read_at a.image.now) s.right s.links a.level a.left a.target a.limit a.id _ _ (sym c.in-Some.is ∙ c.header_at.ensures) c.seen_on.ensures c.in-Back.is
