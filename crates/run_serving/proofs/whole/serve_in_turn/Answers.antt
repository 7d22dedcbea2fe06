use Rattle.run_serving.proofs.whole.serve_in_turn.Goals as goal

pub returns : goal.returns
returns c = record {
  serves = record {
    k1 = c.serve_fronts-next.new.target;
    k2 = c.serve_script.new.target;
    k3 = c.serve_rests-next.new.target;
    os1 = c.serve_fronts-next.new.outputs;
    os2 = c.serve_rests-next.new.outputs;
    n1 = c.serve_fronts-next.result;
    n2 = c.in_ok-next.next;
    n3 = c.serve_rests-next.result;
    fronts = c.serve_fronts-next.ensures.serves;
    edits = c.in_ok-next.ensures.serves;
    rests = c.serve_rests-next.ensures.serves;
    finals = c.poll_all.ensures.serves;
  };
}
