use Rattle.nbd_server.proofs.desk.put_answer.Goals as goal

pub returns-in-Done : goal.returns-in-Done
returns-in-Done g c = rw c.in-Done.is c.put_reply.ensures

pub returns-in-Failed : goal.returns-in-Failed
returns-in-Failed g c = rw c.in-Failed.is c.put_reply-in-Failed.ensures

pub returns-in-Data : goal.returns-in-Data
returns-in-Data g c = rw c.in-Data.is (rw c.as_slice.ensures at c.put_data.ensures)
