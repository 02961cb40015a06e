-- The call on the canvas that the words mean.
use Rattle.words.specs.Hosted.{host}
use Rattle.hosts.proofs.LentCalls.{shown, rendered-finished}
use Rattle.hosts.proofs.calls.mossbuckle_render.Goals as goal

pub returns : goal.returns
returns c =
    let a = c.args in
    let h = host a.canvas.now a.cells.now a.labels.now in
    shown h (record { columns = a.columns; rows = a.rows; x = a.x; y = a.y }) a.screen.now c.load-c.ensures c.render-called.ensures.answer c.render-called.ensures.canvas
    a.painted.now a.label_cells.now c.render-called.ensures.cells c.render-called.ensures.screen
    (rendered-finished h c.render-called.result c.finish_rendered.ensures.status c.finish_rendered.ensures.words) c.finish_rendered.ensures.painted c.finish_rendered.ensures.label_cells
