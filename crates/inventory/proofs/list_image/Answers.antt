-- `inventory::list_image` meets its contract: each way out is one of proofs/Exits.
-- Assumes nothing.
use Rattle.std.proofs.lemmas.Result.{err_from_is_err_and}
use Rattle.inventory.proofs.Exits.{handed, list_refused, list_files}
use Rattle.inventory.proofs.list_image.Goals as goal

pub returns-in_err-mount : goal.returns-in_err-mount
returns-in_err-mount c =
    let p = err_from_is_err_and c.from_residual.result c.from_residual.ensures.1 in
    let h = c.if-image.false in
    let o = handed c.args.image.now h _ _ _ _ _ c.empty_table-table.ensures c.new_state-state.ensures _ (rw c.in_err-mount.was at c.mount.ensures) in
    rw (p.1, p.2) (list_refused c.args.image.now h _ _ _ o)

pub returns : goal.returns
returns c =
    let h = c.if-image.false in
    let o = handed c.args.image.now h _ _ _ _ _ c.empty_table-table.ensures c.new_state-state.ensures _ (rw c.in_ok-mount.was at c.mount.ensures) in
    rw (c.lines_of.ensures, c.from.ensures) (list_files c.args.image.now h _ _ o)
