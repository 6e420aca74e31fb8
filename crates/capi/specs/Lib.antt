pub mod Numbers
pub mod Asking
pub mod Previewing
