mod Turns
mod Numbers
mod Admitted
mod Accepted
