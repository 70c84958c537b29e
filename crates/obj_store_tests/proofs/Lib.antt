mod Rows
mod PinLaws
